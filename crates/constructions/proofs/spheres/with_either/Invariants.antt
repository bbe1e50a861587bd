use Rattle.std.proofs.Common.{◌≡◌, ◌+◌, ◌++◌, ◌∷◌, [], take}
use Rattle.std.specs.List.{flat_map}
use Rattle.constructions.proofs.spheres.with_either.Given as goal

abbrev pub invariant-loop-s : goal.invariant-loop-s
invariant-loop-s l = l.list.items ≡ flat_map (λ s. (s ++ l.label ∷ []) ∷ (s ++ (l.label + 1) ∷ []) ∷ []) (take l.s-index l.simplices)
