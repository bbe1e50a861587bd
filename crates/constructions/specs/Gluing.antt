-- Sums of two complexes along a facet of each, and handles between two facets of one.
use Rattle.std.specs.Prelude.{ℕ, ◌+◌, Bool, not, List, [], ◌∷◌, ◌++◌, map, length, nat_le, ◌==◌}
use Rattle.std.specs.List.{filter, zip}
use Rattle.simplex.specs.Simplex.{minus, is_same, is_disjoint, label_limit}
use Rattle.simplex.specs.SimplexFault.{set}
use Rattle.facet_set.specs.Complex.{simplices, verts, stands_in}
use Rattle.facet_set.specs.Maps.{image}
use Rattle.facet_set.specs.Numbers.{size, is_pure, greatest}
use Rattle.constructions.specs.Nearness.{is_near}
use Rattle.constructions.specs.Relabelling.{renumbering}
use Rattle.constructions.specs.declared.make_fault.MakeFault.{MakeFault}
use Rattle.constructions.specs.declared.make_fault.MakeFault.TheVariants.{NotPure, DimDiffers, NotFacet, LabelRange, Overlap, Near}

-- the facets but one
abbrev pub all_but : List ℕ → List (List ℕ) → List (List ℕ)
all_but s c = filter (λ t. not (is_same t s)) c

-- each label of g becomes that of f at its place, and the other vertices of y become the labels that follow the greatest of x
abbrev pub glued : List (List ℕ) → List ℕ → List (List ℕ) → List ℕ → List (ℕ × ℕ)
glued x f y g = zip g f ++ renumbering (greatest x) (minus (verts y) g)

-- the facets of x but f, and those of y but g with their new labels
abbrev pub sum_of : List (List ℕ) → List ℕ → List (List ℕ) → List ℕ → List (List ℕ)
sum_of x f y g = simplices (all_but (set f) x ++ image (glued x f y g) (all_but (set g) y))

-- the facets but f and g, where each label of g becomes that of f at its place
abbrev pub handle : List (List ℕ) → List ℕ → List ℕ → List (List ℕ)
handle x f g = image (zip g f) (all_but (set f) (all_but (set g) x))

-- the conditions of a sum, in order
abbrev pub sum_tests : List (List ℕ) → List ℕ → List (List ℕ) → List ℕ → List (Bool × MakeFault)
sum_tests x f y g =
    (is_pure x, NotPure)
    ∷ (is_pure y, NotPure)
    ∷ (size x == size y, DimDiffers)
    ∷ (stands_in x (set f), NotFacet)
    ∷ (stands_in y (set g), NotFacet)
    ∷ (nat_le (greatest x + length (minus (verts y) g)) label_limit, LabelRange)
    ∷ []

-- no label is near its partner, in the order of the pairs
abbrev pub near_tests : List (List ℕ) → List (ℕ × ℕ) → List (Bool × MakeFault)
near_tests c pairs = map (λ p. (not (is_near c p.0 p.1), Near p.0)) pairs

-- the conditions of a handle, in order
abbrev pub handle_tests : List (List ℕ) → List ℕ → List ℕ → List (Bool × MakeFault)
handle_tests x f g =
    (is_pure x, NotPure)
    ∷ (stands_in x (set f), NotFacet)
    ∷ (stands_in x (set g), NotFacet)
    ∷ (is_disjoint f g, Overlap)
    ∷ near_tests x (zip f g)
