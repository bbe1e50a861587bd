use Rattle.std.proofs.Common.{◌∙◌, sym, arith}
use Rattle.local_parts.proofs.ForestLaws.{root_next, root_itself}
use Rattle.local_parts.proofs.forest.root_of.Goals as goal

pub loop-at-preserved : goal.loop-at-preserved
loop-at-preserved c = record {
  within = omega (arith, c.requires.falls c.loop-at.at c.loop-at.invariant.within, c.loop-at.invariant.within);
  same = root_next c.args.parents.now c.loop-at.at c.requires.falls c.loop-at.invariant.within ∙ c.loop-at.invariant.same;
}

pub returns-clause-value : goal.returns-clause-value
returns-clause-value c = sym (root_itself c.args.parents.now c.loop-at.at c.loop-at-test.false) ∙ c.loop-at.invariant.same
