-- Pairs of places that stand for what the facets join.
use Rattle.std.specs.Prelude.{◌≡◌, ℕ, suc, ◌+◌, ◌==◌, List, [], ◌∷◌, ◌++◌, map, slice_index_or, if◌then◌else◌}
use Rattle.std.specs.List.{flat_map}
use Rattle.simplex.specs.Members.{In}
use Rattle.simplex.specs.Simplex.{without}

-- the place of the label, from 0, or the number of labels where it is none of them
abbrev pub place : List ℕ → ℕ → ℕ
place [] a = 0
place (v ∷ vs) a = if v == a then 0 else suc (place vs a)

-- the places of the first label and of each label
abbrev pub pairs_of : List ℕ → List ℕ → List (ℕ × ℕ)
pairs_of vs s = map (λ a. (place vs (slice_index_or s 0 0), place vs a)) s

abbrev pub vertex_pairs : List ℕ → List (List ℕ) → List (ℕ × ℕ)
vertex_pairs vs c = flat_map (pairs_of vs) c

-- each facet less one label, with the place of the facet, from i on
abbrev pub ridge_places : ℕ → List (List ℕ) → List (List ℕ × ℕ)
ridge_places i [] = []
ridge_places i (s ∷ c) = map (λ a. (without s a, i)) s ++ ridge_places (i + 1) c

-- the pairs tie together the facets that have a ridge in common, and no others
pub record IsTied (places : List (List ℕ × ℕ)) (pairs : List (ℕ × ℕ)) : Type 0 where
  pub common : (q : ℕ × ℕ) → In q pairs → (r : List ℕ) × In (r, q.0) places × In (r, q.1) places
  pub same : (f : ℕ → ℕ) → ((q : ℕ × ℕ) → In q pairs → f q.0 ≡ f q.1) → (r : List ℕ) (i j : ℕ) → In (r, i) places → In (r, j) places → f i ≡ f j
