-- Which faces ask for which sets. A flip of a class that is not 0 takes a face A out and puts its link vertices B in, and A asks for
-- B where only that B is no face is left to show. So the options are the faces that ask for a set that is no face.
use Rattle.std.specs.Prelude.{ℕ, ◌+◌, Bool, not, ◌&&◌, ◌==◌, List, length, map, nat_lt, Option, Some, None, if◌then◌else◌}
use Rattle.simplex.specs.declared.flip.Flip.{Flip}
use Rattle.simplex.specs.Simplex.{is_same}
use Rattle.facet_set.specs.Complex.{is_face}
use Rattle.facet_set.specs.Flips.{link_vertices, options}
use Rattle.facet_set.specs.Numbers.{degree, is_pure, size}

-- whether A asks: it has a label and fewer than a facet, and its link vertices and the facets with A are each so many that together
-- with the labels of A they are one more than the labels of a facet
abbrev pub asks : List (List ℕ) → List ℕ → Bool
asks c a =
    is_pure c && (nat_lt 0 (length a) && nat_lt (length a) (size c)) && (length a + length (link_vertices c a) == size c + 1) && (length a + degree c a == size c + 1)

-- what A asks for, if it does
abbrev pub wanted : List (List ℕ) → List ℕ → Option (List ℕ)
wanted c a = if asks c a then Some (link_vertices c a) else None

-- whether A asks for B
abbrev pub asks_for : List (List ℕ) → List ℕ → List ℕ → Bool
asks_for c a b = asks c a && is_same (link_vertices c a) b

-- whether A asks for a set that is no face
abbrev pub has_option : List (List ℕ) → List ℕ → Bool
has_option c a = asks c a && not (is_face c (link_vertices c a))

-- the faces that have an option of the class
abbrev pub option_faces : List (List ℕ) → ℕ → List (List ℕ)
option_faces c i = map (λ (m : Flip). m.a) (options c i)
