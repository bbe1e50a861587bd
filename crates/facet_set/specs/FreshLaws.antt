-- Laws of the fresh label of a complex.
use Rattle.std.specs.Prelude.{◌≡◌, ◌↔◌, ℕ, ◌<◌, List, Some, None, IsTrue}
use Rattle.std.specs.List.{list_all}
use Rattle.simplex.specs.Members.{In}
use Rattle.simplex.specs.Simplex.{is_label, is_simplex}
use Rattle.facet_set.specs.Complex.{verts}
use Rattle.facet_set.specs.Flips.{fresh}

-- a is the least label that is no vertex
pub record IsLeastFree (c : List (List ℕ)) (a : ℕ) : Type 0 where
  pub label : IsTrue (is_label a)
  pub free : In a (verts c) → ⊥
  pub least : (b : ℕ) → IsTrue (is_label b) → b < a → In b (verts c)

-- the fresh label is that one, and there is none exactly where each label is a vertex
pub record FreshOf (c : List (List ℕ)) : Type 0 where
  pub some : (a : ℕ) → (fresh c ≡ Some a) ↔ IsLeastFree c a
  pub none : (fresh c ≡ None) ↔ ((b : ℕ) → IsTrue (is_label b) → In b (verts c))

abbrev pub FreshIsLeast : Type 0
FreshIsLeast = (c : List (List ℕ)) → IsTrue (list_all is_simplex c) → FreshOf c
