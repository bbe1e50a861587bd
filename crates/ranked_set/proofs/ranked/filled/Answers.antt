use Rattle.std.proofs.Common.{◌≡◌, ◌∙◌, ap, take, get_or, arith, [], List, ℕ}
use Rattle.std.proofs.lemmas.List.{get_or_read}
use Rattle.ranked_set.proofs.BlockLaws.{next_absent, next_put}
use Rattle.ranked_set.proofs.ranked.filled.Goals as goal

pub insert-requires-clause-new : goal.insert-requires-clause-new
insert-requires-clause-new g c =
    next_absent c.args.list.now c.loop-s.set.members c.loop-s.s-index c.s-item.result c.requires.increasing c.loop-s-test.true
    (get_or_read c.args.list.now c.loop-s.s-index c.s-item.result c.loop-s-test.true c.s-item.is []) c.loop-s.invariant.members

pub loop-s-preserved : goal.loop-s-preserved
loop-s-preserved g c = record {
  members =
      c.insert.ensures.members
      ∙ next_put c.args.list.now c.loop-s.set.members c.loop-s.s-index c.s-item.result c.requires.increasing c.loop-s-test.true
      (get_or_read c.args.list.now c.loop-s.s-index c.s-item.result c.loop-s-test.true c.s-item.is []) c.loop-s.invariant.members;
  changes = omega (arith, c.insert.ensures.changes, c.loop-s.invariant.changes);
  spare = omega (arith, c.insert.ensures.spare, c.loop-s.invariant.spare, c.loop-s-test.true);
}
