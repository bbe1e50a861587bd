use Rattle.std.proofs.Common.{◌≡◌, ◌++◌, map, take}
use Rattle.simplex.specs.Simplex.{without}
use Rattle.local_parts.proofs.facet_classes.add_places.Given as goal

abbrev pub invariant-loop-label : goal.invariant-loop-label
invariant-loop-label l = l.places.items ≡ l.fn.places.items ++ map (λ a. (without l.facet a, l.i)) (take l.label-index l.facet)
