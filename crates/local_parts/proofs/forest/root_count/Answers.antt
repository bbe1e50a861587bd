use Rattle.std.proofs.Common.{◌+◌, ◌∙◌, ap, get_or, arith}
use Rattle.std.specs.Prelude.{◌==◌}
use Rattle.local_parts.proofs.ForestLaws.{count_step}
use Rattle.local_parts.proofs.forest.root_count.Goals as goal

pub loop-i-preserved : goal.loop-i-preserved
loop-i-preserved c = record {
  value = ap (λ n. c.loop-i.count + n) c.one_if_root-count.ensures.value ∙ count_step (λ i. get_or c.args.parents.now i 0 == i) c.loop-i.i c.loop-i.count c.loop-i.invariant.value;
  bound = omega (arith, c.loop-i.invariant.bound, c.one_if_root-count.ensures.bound);
}
