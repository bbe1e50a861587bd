use Rattle.std.proofs.Common.{◌≡◌, take}
use Rattle.std.specs.List.{flat_map}
use Rattle.morse_lists.specs.Cells.{numbered}
use Rattle.morse_lists.proofs.all_faces.subsets_of_all.Given as goal

abbrev pub invariant-loop-facet : goal.invariant-loop-facet
invariant-loop-facet l = l.list.items ≡ flat_map numbered (take l.facet-index l.facets)
