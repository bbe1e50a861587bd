-- Laws of classes under chains.
use Rattle.std.specs.Prelude.{◌≡◌, ◌↔◌, ⊤, Bool, List, [], ◌∷◌}
use Rattle.std.specs.List.{flat_map}
use Rattle.simplex.specs.Members.{In}
use Rattle.facet_set.specs.Connection.{Chain, classes}

module _ (X : Type 0) where
  -- x and y stand together in one of the lists
  abbrev pub AreTogether : List (List X) → X → X → Type 0
  AreTogether ks x y = (k : List X) × In k ks × In x k × In y k

  -- two members are in one class exactly where a chain joins them
  abbrev pub ClassChains : Type 0
  ClassChains = (joined : X → X → Bool) → ((x y : X) → joined x y ≡ joined y x) → (xs : List X) (x y : X) → In x xs → AreTogether (classes joined xs) x y ↔ Chain joined xs x y

  -- no value stands twice in the list
  abbrev pub IsOnce : List X → Type 0
  IsOnce [] = ⊤
  IsOnce (x ∷ xs) = (In x xs → ⊥) × IsOnce xs

  -- each class has a member, and where no member stands twice, none stands twice in the classes
  abbrev pub ClassMembers : Type 0
  ClassMembers = (joined : X → X → Bool) (xs : List X) → ((k : List X) → In k (classes joined xs) → (x : X) × In x k) × (IsOnce xs → IsOnce (flat_map (λ k. k) (classes joined xs)))
