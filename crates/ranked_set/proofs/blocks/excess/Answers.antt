use Rattle.std.proofs.Common.{◌+◌, arith}
use Rattle.ranked_set.proofs.ExcessLaws.{excess_more, excess_front}
use Rattle.ranked_set.proofs.blocks.excess.Goals as goal

pub overflow_add-sum : goal.overflow_add-sum
overflow_add-sum c =
    omega (
      arith,
      c.requires.few,
      c.loop-block.invariant,
      c.loop-block-test.true,
      c.len.ensures,
      c.saturating_sub-sum.ensures,
      excess_more c.args.blocks.now c.loop-block.block-index c.block-item.result c.loop-block-test.true c.block-item.is,
      excess_front c.args.blocks.now (c.loop-block.block-index + 1) c.requires.short,
    )

pub loop-block-preserved : goal.loop-block-preserved
loop-block-preserved c =
    omega (
      arith,
      c.loop-block.invariant,
      c.len.ensures,
      c.saturating_sub-sum.ensures,
      excess_more c.args.blocks.now c.loop-block.block-index c.block-item.result c.loop-block-test.true c.block-item.is,
    )
