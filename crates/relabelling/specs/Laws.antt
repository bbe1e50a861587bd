-- Laws of the bijections that carry one complex to another.
use Rattle.std.specs.Prelude.{◌≡◌, ◌⊎◌, ℕ, ◌↔◌, List, Some, None, IsSome, IsTrue}
use Rattle.std.specs.List.{list_all}
use Rattle.simplex.specs.Members.{In}
use Rattle.simplex.specs.Simplex.{is_simplex}
use Rattle.facet_set.specs.Complex.{is_complex}
use Rattle.facet_set.specs.Connection.{is_closed, is_strong}
use Rattle.facet_set.specs.Flips.{is_simplex_boundary}
use Rattle.facet_set.specs.Maps.{image_of}
use Rattle.facet_set.specs.Numbers.{size}
use Rattle.relabelling.specs.Bijections.{is_map_to, comes_before, maps, first_map}

-- every bijection of vertices that carries c to d is a member, and nothing else is
abbrev pub MapMembers : Type 0
MapMembers = (c d : List (List ℕ)) (m : List (ℕ × ℕ)) → IsTrue (list_all is_simplex c) → IsTrue (is_complex c) → In m (maps c d) ↔ IsTrue (is_map_to c d m)

-- two members that agree on one facet of a closed and strong complex are one
abbrev pub OneByFacet : Type 0
OneByFacet =
    (c d : List (List ℕ)) (m n : List (ℕ × ℕ)) (s : List ℕ) → IsTrue (list_all is_simplex c) → IsTrue (is_complex c) → IsTrue (is_closed c) → IsTrue (is_strong c) → In m (maps c d) → In n (maps c d) → In s c
    → ((a : ℕ) → In a s → image_of m a ≡ image_of n a) → m ≡ n

-- m carries c to d, and its list of images comes before that of every other bijection that does
pub record IsLeastMap (c d : List (List ℕ)) (m : List (ℕ × ℕ)) : Type 0 where
  pub carries : IsTrue (is_map_to c d m)
  pub least : (n : List (ℕ × ℕ)) → IsTrue (is_map_to c d n) → (n ≡ m) ⊎ IsTrue (comes_before m n)

-- the first bijection is the one whose list of images is least, and there is none exactly where no bijection carries c to d
abbrev pub FirstMapIsLeast : Type 0
FirstMapIsLeast =
    (c d : List (List ℕ)) → IsTrue (list_all is_simplex c) → IsTrue (is_complex c)
    → ((m : List (ℕ × ℕ)) → (first_map c d ≡ Some m) ↔ IsLeastMap c d m) × ((first_map c d ≡ None) ↔ ((n : List (ℕ × ℕ)) → IsTrue (is_map_to c d n) → ⊥))

-- some bijection carries the boundary of a simplex to that of any other of the same dimension
abbrev pub BoundariesAreCarried : Type 0
BoundariesAreCarried =
    (c d : List (List ℕ)) → IsTrue (list_all is_simplex c) → IsTrue (is_complex c) → IsTrue (list_all is_simplex d) → IsTrue (is_complex d)
    → IsTrue (is_simplex_boundary c) → IsTrue (is_simplex_boundary d) → size c ≡ size d → IsSome (first_map c d)
