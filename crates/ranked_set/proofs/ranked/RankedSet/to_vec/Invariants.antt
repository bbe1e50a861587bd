use Rattle.std.proofs.Common.{◌≡◌, take}
use Rattle.ranked_set.specs.Blocks.{joined}
use Rattle.ranked_set.proofs.ranked.RankedSet.to_vec.Given as goal

abbrev pub invariant-loop-block : goal.invariant-loop-block
invariant-loop-block l = l.list.items ≡ joined (take l.block-index l.block-items)
