-- How a plan is worked out, set by set of the join of A and B.
use Rattle.std.specs.Prelude.{◌≡◌, ◌↔◌, ℕ, ◌+◌, ◌-◌, ◌==◌, nat_eq, nat_le, nat_lt, not, ◌&&◌, ◌||◌, Bool, true, false, List, [], ◌∷◌, ◌++◌, length, map, Option, Some, None, IsTrue, ◌⊎◌, if◌then◌else◌}
use Rattle.std.specs.Cmp.Lexicographic.{pointwise}
use Rattle.std.specs.List.{list_all}
use Rattle.std.specs.Ordering.{nat_cmp}
use Rattle.simplex.specs.declared.flip.Flip.{Flip}
use Rattle.simplex.specs.InOrder.{is_increasing}
use Rattle.simplex.specs.Members.{In}
use Rattle.simplex.specs.Simplex.{is_label, is_simplex, is_within, len_limit}
use Rattle.facet_set.specs.ClassLaws.{IsOnce}
use Rattle.facet_set.specs.Complex.{is_face}
use Rattle.facet_set.specs.Flips.{flip}
use Rattle.facet_set.specs.Numbers.{size}
use Rattle.facet_set.specs.Star.{lies_in_join}
use Rattle.flip_plans.specs.declared.plan.Asking.{Asking}
use Rattle.flip_plans.specs.declared.plan.SetChange.{SetChange}
use Rattle.flip_plans.specs.Askers.{asks_for, has_option}

-- whether a set with so many facets asks, by its labels and its link vertices, in a pure complex with n labels to a facet
abbrev pub asks_by : ℕ → List ℕ → List ℕ → ℕ → Bool
asks_by n a up degree = (nat_lt 0 (length a) && nat_lt (length a) n) && (length a + length up == n + 1) && (length a + degree == n + 1)

-- and what it asks for
abbrev pub wanted_by : ℕ → List ℕ → List ℕ → ℕ → Option (List ℕ)
wanted_by n a up degree = if asks_by n a up degree then Some up else None

-- the list, where a simplex has room for it
abbrev pub fitting : List ℕ → Option (List ℕ)
fitting l = if nat_le (length l) len_limit then Some l else None

-- labels in increasing order
pub record AreLabels (l : List ℕ) : Type 0 where
  pub all : IsTrue (list_all is_label l)
  pub rising : IsTrue (is_increasing nat_cmp l)

-- whether the set that is asked for is no face
abbrev pub is_open : Option (List ℕ) → (List ℕ → Bool) → Bool
is_open None face = false
is_open (Some b) face = not (face b)

-- whether the set is a face, before the flip where `other` is B and after it where that is A
abbrev pub is_face_beside : List (List ℕ) → Flip → List ℕ → List ℕ → Bool
is_face_beside c m other b = if lies_in_join m.a m.b b then not (is_within other b) else is_face c b

-- whether that is the set
abbrev pub is_that : Option (List ℕ) → List ℕ → Bool
is_that None b = false
is_that (Some a) b = pointwise nat_eq a b

-- what the id ceases to ask for, by what it asked for and what it asks for now
abbrev pub given_up : ℕ → Option (List ℕ) → Option (List ℕ) → List Asking
given_up i None now = []
given_up i (Some b) now = if is_that now b then [] else record { asker = i; set = b } ∷ []

-- the change of a set that had an option or had none, and has one now or has none
abbrev pub near_change : ℕ → List ℕ → Bool → Bool → List SetChange
near_change n s true true = []
near_change n s false false = []
near_change n s had has = record { class = n - length s; face = s; comes = has } ∷ []

-- the change of a face that asks for a set which comes or goes: none where the face is in the join
abbrev pub far_change : ℕ → Flip → List ℕ → Bool → List SetChange
far_change n m face comes = if lies_in_join m.a m.b face then [] else record { class = n - length face; face = face; comes = comes } ∷ []

-- the set has an option before the flip or after it, and not both
pub record IsNearChange (c : List (List ℕ)) (m : Flip) (s : List ℕ) (x : SetChange) : Type 0 where
  pub face : x.face ≡ s
  pub class : x.class ≡ size c - length s
  pub had : has_option c s ≡ not x.comes
  pub has : has_option (flip c m.a m.b) s ≡ x.comes

-- a face outside the join asks for the set, which comes or goes
pub record IsFarChange (c : List (List ℕ)) (m : Flip) (s : List ℕ) (x : SetChange) : Type 0 where
  pub simplex : IsTrue (is_simplex x.face)
  pub outside : lies_in_join m.a m.b x.face ≡ false
  pub asks : IsTrue (asks_for c x.face s)
  pub class : x.class ≡ size c - length x.face
  pub comes : x.comes ≡ is_within m.a s
  pub above : IsTrue (is_within m.a s || is_within m.b s)

-- a change that a set of the join brings about
abbrev pub IsChangeBy : List (List ℕ) → Flip → List ℕ → SetChange → Type 0
IsChangeBy c m s x = IsNearChange c m s x ⊎ IsFarChange c m s x

-- the new list has some members more: just those that pass, no two with the same face
pub record HasMore (P : SetChange → Type 0) (old new : List SetChange) : Type 0 where
  pub more : List SetChange
  pub all : new ≡ old ++ more
  pub members : (x : SetChange) → In x more ↔ P x
  pub once : IsOnce (List ℕ) (map (λ (x : SetChange). x.face) more)
