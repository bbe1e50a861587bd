use Rattle.std.proofs.Common.{arith}
use Rattle.facet_set.proofs.SetLaws.{in_place}
use Rattle.local_parts.proofs.ForestLaws.{alone, forest_step}
use Rattle.local_parts.proofs.forest.unite_all.Goals as goal

pub loop-pair-init : goal.loop-pair-init
loop-pair-init c = alone _ c.args.pairs.now c.args.parents.now c.requires.alone

pub unite-requires-clause-first : goal.unite-requires-clause-first
unite-requires-clause-first c = omega (arith, (c.requires.below _ (in_place c.args.pairs.now c.loop-pair.pair-index (0, 0) c.loop-pair-test.true)).0, c.loop-pair.invariant.long)

pub unite-requires-clause-second : goal.unite-requires-clause-second
unite-requires-clause-second c = omega (arith, (c.requires.below _ (in_place c.args.pairs.now c.loop-pair.pair-index (0, 0) c.loop-pair-test.true)).1, c.loop-pair.invariant.long)

pub loop-pair-preserved : goal.loop-pair-preserved
loop-pair-preserved c =
    forest_step _ c.args.pairs.now c.loop-pair.pair-index c.loop-pair.parents c.unite.new.parents c.loop-pair-test.true c.requires.below c.loop-pair.invariant c.unite.auto.parents c.unite.ensures.falls c.unite.ensures.roots
