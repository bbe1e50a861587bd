-- What a flip changes beside facets. Faces have ids here, and what asks is an id.
use Rattle.std.specs.Prelude.{◌≡◌, ◌↔◌, ℕ, ◌+◌, ◌^◌, ◌<◌, true, false, List, ◌++◌, length, map, nat_eq, slice_index_or, Option, Some, None, IsSome, IsTrue, if◌then◌else◌}
use Rattle.std.specs.Cmp.Lexicographic.{pointwise}
use Rattle.std.specs.List.{filter}
use Rattle.simplex.specs.declared.flip.Flip.{Flip}
use Rattle.simplex.specs.Members.{In}
use Rattle.simplex.specs.Simplex.{is_simplex, minus, subset_at}
use Rattle.facet_set.specs.ClassLaws.{IsOnce}
use Rattle.facet_set.specs.Flips.{flip}
use Rattle.facet_set.specs.Numbers.{size}
use Rattle.flip_plans.specs.declared.plan.Asking.{Asking}
use Rattle.flip_plans.specs.declared.plan.SetChange.{SetChange}
use Rattle.flip_plans.specs.Askers.{asks, asks_for, option_faces}

-- the id is that of a set which asks for b
abbrev pub IsAsker : List (List ℕ) → (List ℕ → Option ℕ) → ℕ → List ℕ → Type 0
IsAsker c id_of i b = (a : List ℕ) × IsTrue (is_simplex a) × (id_of a ≡ Some i) × IsTrue (asks_for c a b)

-- the askers of each set are those ids, none twice
pub record AreAskers (c : List (List ℕ)) (id_of : List ℕ → Option ℕ) (askers_of : List ℕ → List ℕ) : Type 0 where
  pub asks : (i : ℕ) (b : List ℕ) → In i (askers_of b) ↔ IsAsker c id_of i b
  pub once : (b : List ℕ) → IsOnce ℕ (askers_of b)

-- the ids of the subsets of the labels, by their numbers: each has one but for the whole, and lists that are no simplex
pub record AreNoted (id_of : List ℕ → Option ℕ) (labels : List ℕ) (ids : List (Option ℕ)) : Type 0 where
  pub len : length ids ≡ 2 ^ length labels
  pub at : (k : ℕ) → k < 2 ^ length labels → slice_index_or ids k None ≡ (if is_simplex (subset_at labels k) then id_of (subset_at labels k) else None)
  pub known : (k : ℕ) → k + 1 < 2 ^ length labels → IsSome (slice_index_or ids k None)

-- the id is that of a set which asks for b in the second complex, and not in the first
abbrev pub BeginsToAsk : List (List ℕ) → List (List ℕ) → (List ℕ → Option ℕ) → ℕ → List ℕ → Type 0
BeginsToAsk c d id_of i b = (a : List ℕ) × IsTrue (is_simplex a) × (id_of a ≡ Some i) × IsTrue (asks_for d a b) × (asks_for c a b ≡ false)

-- the face has an option of the class, which is not 0, in the second complex, and none in the first
pub record GetsOption (c d : List (List ℕ)) (i : ℕ) (a : List ℕ) : Type 0 where
  pub above : 0 < i
  pub below : i < size c
  pub has : In a (option_faces d i)
  pub had : In a (option_faces c i) → ⊥

-- these are the changes that the flip makes: each is there, and at no id or face two of a kind
pub record IsPlanOf (c : List (List ℕ)) (m : Flip) (id_of : List ℕ → Option ℕ) (asks_go asks_come : List Asking) (changes : List SetChange) : Type 0 where
  pub go : (i : ℕ) (b : List ℕ) → In (record { asker = i; set = b }) asks_go ↔ BeginsToAsk (flip c m.a m.b) c id_of i b
  pub come : (i : ℕ) (b : List ℕ) → In (record { asker = i; set = b }) asks_come ↔ BeginsToAsk c (flip c m.a m.b) id_of i b
  pub go_once : IsOnce ℕ (map (λ (x : Asking). x.asker) asks_go)
  pub come_once : IsOnce ℕ (map (λ (x : Asking). x.asker) asks_come)
  pub gained : (i : ℕ) (a : List ℕ) → In (record { class = i; face = a; comes = true }) changes ↔ GetsOption c (flip c m.a m.b) i a
  pub lost : (i : ℕ) (a : List ℕ) → In (record { class = i; face = a; comes = false }) changes ↔ GetsOption (flip c m.a m.b) c i a
  pub once : IsOnce (List ℕ) (map (λ (x : SetChange). x.face) changes)

-- the ids that the list has for the set
abbrev pub askers_among : List Asking → List ℕ → List ℕ
askers_among xs b = map (λ (x : Asking). x.asker) (filter (λ (x : Asking). pointwise nat_eq x.set b) xs)

-- the askers before with those that begin to ask, and without those that cease to, are the askers after the flip, where those that
-- ask then keep their ids
abbrev pub AskersFollow : Type 0
AskersFollow =
    (c : List (List ℕ)) (m : Flip) (id_of next_id : List ℕ → Option ℕ) (askers_of next_askers : List ℕ → List ℕ) (asks_go asks_come : List Asking) (changes : List SetChange)
    → IsPlanOf c m id_of asks_go asks_come changes
    → AreAskers c id_of askers_of
    → ((s t : List ℕ) (i : ℕ) → id_of s ≡ Some i → id_of t ≡ Some i → s ≡ t)
    → ((a : List ℕ) → IsTrue (is_simplex a) → IsTrue (asks (flip c m.a m.b) a) → next_id a ≡ id_of a)
    → ((b : List ℕ) → next_askers b ≡ minus (askers_of b ++ askers_among asks_come b) (askers_among asks_go b))
    → AreAskers (flip c m.a m.b) next_id next_askers
