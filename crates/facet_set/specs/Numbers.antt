-- The numbers of a complex.
use Rattle.std.specs.Prelude.{ℕ, ◌*◌, ◌^◌, Bool, false, List, [], ◌∷◌, map, length, ◌==◌, max, ℤ, pos, ◌-ℤ◌, Option, Some, None}
use Rattle.std.specs.List.{list_all, filter, range_with_len, fold}
use Rattle.facet_set.specs.Complex.{faces, verts, facets_with}

-- the number of labels of the largest facet, or 0 where there is no facet
abbrev pub size : List (List ℕ) → ℕ
size [] = 0
size (s ∷ c) = max (length s) (size c)

-- the dimension, if there is a facet
abbrev pub dim : List (List ℕ) → Option ℤ
dim [] = None
dim (s ∷ c) = Some (pos (size (s ∷ c)) -ℤ pos 1)

-- whether there is a facet, and all have as many labels as the largest
abbrev pub is_pure : List (List ℕ) → Bool
is_pure [] = false
is_pure (s ∷ c) = list_all (λ t. length t == size (s ∷ c)) (s ∷ c)

-- the number of facets times 2^(dim+1)
abbrev pub weight : List (List ℕ) → ℕ
weight c = length c * 2 ^ size c

-- the greatest weight of what is held: of all complexes with names, and of one on a walk. It is own
abbrev pub weight_limit : ℕ
weight_limit = 8388608

-- the faces with n labels
abbrev pub faces_of_size : List (List ℕ) → ℕ → List (List ℕ)
faces_of_size c n = filter (λ s. length s == n) (faces c)

-- how many faces have n labels
abbrev pub face_count : List (List ℕ) → ℕ → ℕ
face_count c n = length (faces_of_size c n)

-- how many facets contain the simplex
abbrev pub degree : List (List ℕ) → List ℕ → ℕ
degree c s = length (facets_with c s)

-- f_0, .., f_d: the numbers of faces with 1, 2, .. labels
abbrev pub f_vector : List (List ℕ) → List ℕ
f_vector c = map (face_count c) (range_with_len 1 (size c))

-- the greatest vertex, or 0 where there is none
abbrev pub greatest : List (List ℕ) → ℕ
greatest c = fold max 0 (verts c)
