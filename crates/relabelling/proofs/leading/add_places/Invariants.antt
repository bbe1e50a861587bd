use Rattle.std.proofs.Common.{◌≡◌, ◌++◌, map, take}
use Rattle.relabelling.proofs.leading.add_places.Given as goal

abbrev pub invariant-loop-label : goal.invariant-loop-label
invariant-loop-label l = l.places.items ≡ l.fn.places.items ++ map (λ a. (a, l.s)) (take l.label-index l.s)
