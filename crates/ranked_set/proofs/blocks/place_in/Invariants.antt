use Rattle.std.proofs.Common.{◌≡◌, ◌+◌, take, length}
use Rattle.ranked_set.specs.Blocks.{joined}
use Rattle.ranked_set.proofs.blocks.place_in.Given as goal

abbrev pub invariant-loop-block : goal.invariant-loop-block
invariant-loop-block l = l.fn.place ≡ length (joined (take l.block l.blocks)) + l.inner
