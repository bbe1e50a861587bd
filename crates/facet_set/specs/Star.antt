-- The facets that contain a simplex A, and the labels of A and of another simplex B.
use Rattle.std.specs.Prelude.{ℕ, Bool, ◌&&◌, ◌||◌, List, length, ◌==◌}
use Rattle.std.specs.List.{list_all}
use Rattle.simplex.specs.Simplex.{has}
use Rattle.facet_set.specs.Complex.{facets_with}
use Rattle.facet_set.specs.Numbers.{degree}

-- whether each label of the simplex is one of a or of b
abbrev pub lies_in_join : List ℕ → List ℕ → List ℕ → Bool
lies_in_join a b s = list_all (λ x. has a x || has b x) s

-- whether the facets with a are as many as the labels of b, and each has labels of a and b alone
abbrev pub is_counted_star : List (List ℕ) → List ℕ → List ℕ → Bool
is_counted_star c a b = list_all (lies_in_join a b) (facets_with c a) && (degree c a == length b)
