-- Orders of a facet's labels that the labels of another facet may go to.
use Rattle.std.specs.Prelude.{◌≡◌, ℕ, ◌<◌, Bool, not, ◌&&◌, ◌==◌, List, [], ◌∷◌, ◌++◌, map, length, slice_index_or, IsTrue}
use Rattle.std.specs.List.{list_all, filter, flat_map}
use Rattle.simplex.specs.Members.{In}
use Rattle.simplex.specs.Simplex.{has, is_label}
use Rattle.facet_set.specs.Maps.{is_distinct}

-- whether the label is not in the order yet and has the colour of the label that it would be the image of
abbrev pub may_follow : (ℕ → ℕ) → (ℕ → ℕ) → List ℕ → List ℕ → ℕ → Bool
may_follow f g start order a = not (has order a) && (f (slice_index_or start (length order) 0) == g a)

-- the order with one more label of the facet, in each way
abbrev pub longer : (ℕ → ℕ) → (ℕ → ℕ) → List ℕ → List ℕ → List ℕ → List (List ℕ)
longer f g start facet order = map (λ a. order ++ a ∷ []) (filter (may_follow f g start order) facet)

-- each is a list of n labels
abbrev pub AreOrders : ℕ → List (List ℕ) → Type 0
AreOrders n orders = (o : List ℕ) → In o orders → (length o ≡ n) × IsTrue (list_all is_label o)

-- labels of the facet, in an order that keeps the colours
pub record Fits (f g : ℕ → ℕ) (start facet order : List ℕ) : Type 0 where
  pub long : length order ≡ length start
  pub distinct : IsTrue (is_distinct order)
  pub within : (a : ℕ) → In a order → In a facet
  pub coloured : (k : ℕ) → k < length order → f (slice_index_or start k 0) ≡ g (slice_index_or order k 0)
