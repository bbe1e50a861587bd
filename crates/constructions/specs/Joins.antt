-- Joins of two complexes.
use Rattle.std.specs.Prelude.{ℕ, ◌+◌, Bool, ◌||◌, List, [], ◌∷◌, ◌++◌, map, length, nat_le, ◌==◌}
use Rattle.std.specs.List.{flat_map}
use Rattle.simplex.specs.Simplex.{union, len_limit, label_limit}
use Rattle.facet_set.specs.Complex.{simplices, verts}
use Rattle.facet_set.specs.Maps.{image}
use Rattle.facet_set.specs.Numbers.{size, weight, greatest}
use Rattle.constructions.specs.Relabelling.{renumbering}
use Rattle.constructions.specs.declared.make_fault.MakeFault.{MakeFault}
use Rattle.constructions.specs.declared.make_fault.MakeFault.TheVariants.{DimLimit, LabelRange, Size}

-- y with the labels that follow the greatest of x
abbrev pub moved : List (List ℕ) → List (List ℕ) → List (List ℕ)
moved x y = image (renumbering (greatest x) (verts y)) y

-- the unions of a facet of x and a facet of y with the labels that follow
abbrev pub join : List (List ℕ) → List (List ℕ) → List (List ℕ)
join x y = simplices (flat_map (λ s. map (union s) (moved x y)) x)

-- one point, and two
abbrev pub point : List (List ℕ)
point = (1 ∷ []) ∷ []

abbrev pub two_points : List (List ℕ)
two_points = (1 ∷ []) ∷ (2 ∷ []) ∷ []

-- the join with one point
abbrev pub cone : List (List ℕ) → List (List ℕ)
cone x = join x point

-- the join with two points
abbrev pub suspension : List (List ℕ) → List (List ℕ)
suspension x = join x two_points

-- whether there is no facet
abbrev pub is_void : List (List ℕ) → Bool
is_void c = length c == 0

-- whether the facets and the labels of a join stay within the limits, in order
abbrev pub fit_tests : List (List ℕ) → List (List ℕ) → List (Bool × MakeFault)
fit_tests x y =
    (is_void x || is_void y || nat_le (size x + size y) len_limit, DimLimit)
    ∷ (nat_le (greatest x + length (verts y)) label_limit, LabelRange)
    ∷ []

-- the conditions of a join, in order
abbrev pub join_tests : List (List ℕ) → List (List ℕ) → ℕ → List (Bool × MakeFault)
join_tests x y room = fit_tests x y ++ (nat_le (weight (join x y)) room, Size) ∷ []
