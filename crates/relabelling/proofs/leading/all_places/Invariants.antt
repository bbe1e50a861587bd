use Rattle.std.proofs.Common.{◌≡◌, take}
use Rattle.std.specs.List.{flat_map}
use Rattle.relabelling.specs.Least.{with_each}
use Rattle.relabelling.proofs.leading.all_places.Given as goal

abbrev pub invariant-loop-s : goal.invariant-loop-s
invariant-loop-s l = l.places.items ≡ flat_map with_each (take l.s-index l.simplices)
