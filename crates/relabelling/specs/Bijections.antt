-- Bijections of vertices that carry one complex to another, as lists of pairs of a vertex and its image.
use Rattle.std.specs.Prelude.{ℕ, zero, suc, Bool, ◌&&◌, List, [], ◌∷◌, map, length, nat_eq, slice_get, Option}
use Rattle.std.specs.List.{filter, find, flat_map, zip}
use Rattle.std.specs.Cmp.Lexicographic.{pointwise}
use Rattle.std.specs.Ordering.{is_lt}
use Rattle.simplex.specs.Simplex.{without, simplex_cmp}
use Rattle.facet_set.specs.Complex.{verts}
use Rattle.facet_set.specs.Flips.{same_facets}
use Rattle.facet_set.specs.Maps.{image, image_of, is_map}

-- the lists of n members of the set, none twice, in the order of the lists
abbrev pub arrangements : ℕ → List ℕ → List (List ℕ)
arrangements zero s = [] ∷ []
arrangements (suc n) s = flat_map (λ a. map (λ t. a ∷ t) (arrangements n (without s a))) s

-- whether the pairs give each vertex of c another image and carry c to d
abbrev pub is_map_to : List (List ℕ) → List (List ℕ) → List (ℕ × ℕ) → Bool
is_map_to c d m = is_map m c && same_facets (image m c) d

-- whether the list of images of the first comes before that of the second
abbrev pub comes_before : List (ℕ × ℕ) → List (ℕ × ℕ) → Bool
comes_before m n = is_lt (simplex_cmp (map (λ p. p.1) m) (map (λ p. p.1) n))

-- the bijections that carry c to d, in the order of their lists of images
abbrev pub maps : List (List ℕ) → List (List ℕ) → List (List (ℕ × ℕ))
maps c d = filter (is_map_to c d) (map (zip (verts c)) (arrangements (length (verts c)) (verts d)))

-- the one whose list of images is least, if there is one
abbrev pub first_map : List (List ℕ) → List (List ℕ) → Option (List (ℕ × ℕ))
first_map c d = slice_get (maps c d) 0

-- whether the labels of the simplex become these, in order
abbrev pub goes_to : List (ℕ × ℕ) → List ℕ → List ℕ → Bool
goes_to m s images = pointwise nat_eq (map (image_of m) s) images

-- the bijection that carries c to d and gives the labels of the simplex these images, if there is one
abbrev pub extension : List (List ℕ) → List (List ℕ) → List ℕ → List ℕ → Option (List (ℕ × ℕ))
extension c d s images = find (λ m. goes_to m s images) (maps c d)
