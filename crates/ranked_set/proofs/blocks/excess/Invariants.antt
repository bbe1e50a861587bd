use Rattle.std.proofs.Common.{◌≡◌, take}
use Rattle.ranked_set.specs.Blocks.{excess}
use Rattle.ranked_set.proofs.blocks.excess.Given as goal

abbrev pub invariant-loop-block : goal.invariant-loop-block
invariant-loop-block l = l.sum ≡ excess (take l.block-index l.blocks)
