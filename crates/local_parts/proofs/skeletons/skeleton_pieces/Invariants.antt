use Rattle.std.proofs.Common.{◌≡◌, take}
use Rattle.std.specs.List.{flat_map}
use Rattle.local_parts.specs.Pieces.{largest_subsets}
use Rattle.local_parts.proofs.skeletons.skeleton_pieces.Given as goal

abbrev pub invariant-loop-facet : goal.invariant-loop-facet
invariant-loop-facet l = l.list.items ≡ flat_map (largest_subsets l.size) (take l.facet-index l.facets)
