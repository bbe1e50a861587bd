-- Boundaries of simplices and of cross-polytopes.
use Rattle.std.specs.Prelude.{ℕ, zero, suc, ◌+◌, ◌*◌, Bool, not, List, [], ◌∷◌, ◌++◌, map, nat_le, ◌==◌}
use Rattle.std.specs.List.{range_with_len, flat_map}
use Rattle.simplex.specs.Simplex.{without, len_limit}
use Rattle.facet_set.specs.Complex.{simplices}
use Rattle.constructions.specs.declared.make_fault.MakeFault.{MakeFault}
use Rattle.constructions.specs.declared.make_fault.MakeFault.TheVariants.{Range, DimLimit}

-- the boundary of the simplex on the labels 1 to d+1
abbrev pub bdsimplex : ℕ → List (List ℕ)
bdsimplex d = let all = range_with_len 1 (d + 1) in simplices (map (without all) all)

-- the sets with one label of each of the pairs {1,2}, {3,4}, .., {2d-1,2d}
abbrev pub one_of_each : ℕ → List (List ℕ)
one_of_each zero = [] ∷ []
one_of_each (suc d) = flat_map (λ s. (s ++ (2 * d + 1) ∷ []) ∷ (s ++ (2 * d + 2) ∷ []) ∷ []) (one_of_each d)

-- the boundary of the cross-polytope of dimension d
abbrev pub bdcross : ℕ → List (List ℕ)
bdcross d = simplices (one_of_each d)

-- the conditions of both, in order
abbrev pub sphere_tests : ℕ → List (Bool × MakeFault)
sphere_tests d = (not (d == 0), Range) ∷ (nat_le d len_limit, DimLimit) ∷ []
