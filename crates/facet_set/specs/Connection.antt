-- Closedness and connection.
use Rattle.std.specs.Prelude.{◌≡◌, ℕ, ◌+◌, Bool, true, not, ◌&&◌, List, [], ◌∷◌, length, nat_le, ◌==◌}
use Rattle.std.specs.List.{list_any, list_all, filter, flat_map}
use Rattle.simplex.specs.Members.{In}
use Rattle.simplex.specs.Simplex.{common, has}
use Rattle.facet_set.specs.Complex.{verts}
use Rattle.facet_set.specs.Numbers.{is_pure, degree, size}
use Rattle.facet_set.specs.Parts.{ridges}

-- each ridge lies in exactly two facets
abbrev pub is_closed : List (List ℕ) → Bool
is_closed c = is_pure c && list_all (λ r. degree c r == 2) (ridges c)

-- a chain from one value to another through members of the list, in which neighbours are joined
pub data Chain {X : Type 0} (joined : X → X → Bool) (xs : List X) : X → X → Type 0 where
  here : {x : X} → Chain joined xs x x
  step : {x y z : X} → joined x y ≡ true → In y xs → Chain joined xs y z → Chain joined xs x z

-- the classes of the members under chains: x goes into one class with all classes that have a member joined to x
abbrev pub classes : {X : Type 0} → (X → X → Bool) → List X → List (List X)
classes joined [] = []
classes joined (x ∷ xs) =
    let near = λ (k : List _). list_any (joined x) k in
    (x ∷ flat_map (λ k. k) (filter near (classes joined xs))) ∷ filter (λ k. not (near k)) (classes joined xs)

-- whether the labels are two ends of an edge
abbrev pub is_edge : List (List ℕ) → ℕ → ℕ → Bool
is_edge c a b = list_any (λ s. has s a && has s b) c

-- whether the facets share a ridge
abbrev pub share_ridge : List (List ℕ) → List ℕ → List ℕ → Bool
share_ridge c s t = length (common s t) + 1 == size c

-- the number of classes of vertices under chains of edges
abbrev pub components : List (List ℕ) → ℕ
components c = length (classes (is_edge c) (verts c))

-- every two facets are joined by a chain of facets in which neighbours share a ridge
abbrev pub is_strong : List (List ℕ) → Bool
is_strong c = is_pure c && nat_le (length (classes (share_ridge c) c)) 1
