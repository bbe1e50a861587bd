-- Parts of a complex. A family of faces that is closed under subsets stands for the complex of its maximal members.
use Rattle.std.specs.Prelude.{ℕ, ◌+◌, Bool, not, ◌&&◌, List, map, length, nat_le, ◌==◌}
use Rattle.std.specs.List.{filter}
use Rattle.simplex.specs.Simplex.{is_within, is_disjoint, union, minus}
use Rattle.facet_set.specs.Complex.{generated, faces, is_face, facets_with}
use Rattle.facet_set.specs.Numbers.{size, degree}

-- the complex whose faces are those of c that pass the test
abbrev pub faces_where : (List ℕ → Bool) → List (List ℕ) → List (List ℕ)
faces_where test c = generated (filter test (faces c))

-- the faces B disjoint from A with A ∪ B a face
abbrev pub link : List (List ℕ) → List ℕ → List (List ℕ)
link c a = faces_where (λ b. is_disjoint b a && is_face c (union a b)) c

-- the facets that contain the simplex, less its labels
abbrev pub link_pieces : List (List ℕ) → List ℕ → List (List ℕ)
link_pieces c a = map (λ s. minus s a) (facets_with c a)

abbrev pub star : List (List ℕ) → List ℕ → List (List ℕ)
star c a = generated (facets_with c a)

abbrev pub deletion : List (List ℕ) → List ℕ → List (List ℕ)
deletion c a = faces_where (λ b. not (is_within a b)) c

-- the faces with at most k+1 labels
abbrev pub skeleton : List (List ℕ) → ℕ → List (List ℕ)
skeleton c k = faces_where (λ b. nat_le (length b) (k + 1)) c

-- the faces of one label less than the facets
abbrev pub ridges : List (List ℕ) → List (List ℕ)
ridges c = filter (λ r. length r + 1 == size c) (faces c)

abbrev pub boundary : List (List ℕ) → List (List ℕ)
boundary c = generated (filter (λ r. degree c r == 1) (ridges c))
