use Rattle.std.proofs.Common.{◌≡◌, ◌++◌, map}
use Rattle.std.specs.List.{range_with_len}
use Rattle.simplex.specs.Simplex.{subset_at}
use Rattle.morse_lists.proofs.all_faces.add_subsets.Given as goal

abbrev pub invariant-loop-mask : goal.invariant-loop-mask
invariant-loop-mask l = l.list.items ≡ l.fn.list.items ++ map (subset_at l.facet) (range_with_len 0 l.mask)
