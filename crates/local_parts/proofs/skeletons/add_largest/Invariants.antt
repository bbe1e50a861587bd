use Rattle.std.proofs.Common.{◌≡◌, ◌++◌}
use Rattle.local_parts.specs.Pieces.{subsets_below}
use Rattle.local_parts.proofs.skeletons.add_largest.Given as goal

abbrev pub invariant-loop-mask : goal.invariant-loop-mask
invariant-loop-mask l = l.list.items ≡ l.fn.list.items ++ subsets_below l.size l.s l.mask
