use Rattle.ranked_set.proofs.BlockLaws.{place_more}
use Rattle.ranked_set.proofs.blocks.place_in.Goals as goal

pub loop-block-preserved : goal.loop-block-preserved
loop-block-preserved c =
    place_more c.args.blocks.now c.loop-block.block _ c.args.place c.loop-block.inner _ c.loop-block-test.true c.index-blocks-block.is c.len-len.ensures c.if-inner-len.false c.loop-block.invariant
