use Rattle.std.proofs.Common.{refl}
use Rattle.ranked_set.proofs.BlockLaws.{joined_next}
use Rattle.ranked_set.proofs.ranked.RankedSet.to_vec.Goals as goal

pub loop-block-preserved : goal.loop-block-preserved
loop-block-preserved c =
    joined_next c.deref-block-items.result.now c.loop-block.block-index c.loop-block.list.items c.block-item.result c.block-item.result c.write_to.new.list.items
    c.loop-block-test.true c.block-item.is refl c.loop-block.invariant c.in_ok-write_to.ensures
