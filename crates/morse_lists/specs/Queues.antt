-- Faces that wait, in the order in which they are taken, and which of them wait for the next greedy step.
use Rattle.std.specs.Prelude.{◌≡◌, ◌⊎◌, ℕ, ◌≤◌, false, List, map, length, IsTrue}
use Rattle.std.specs.BinaryHeap.{IsHeap}
use Rattle.std.specs.Ordering.{is_lt, nat_cmp, ordering_then}
use Rattle.std.specs.declared.cmp.Ordering.{Ordering}
use Rattle.std.specs.declared.cmp.Reverse.{Reverse}
use Rattle.simplex.specs.Members.{In}
use Rattle.simplex.specs.Simplex.{is_simplex, simplex_cmp}
use Rattle.facet_set.specs.Facets.{IsFacets}
use Rattle.collapse_moves.specs.Collapses.{is_free}
use Rattle.morse_lists.specs.Morse.{is_top}

-- a face with the number of its labels
abbrev pub Rank : Type 0
Rank = ℕ × Reverse (List ℕ)

-- the number of labels first, and then the other way round
abbrev pub rank_cmp : Rank → Rank → Ordering
rank_cmp x y = ordering_then (nat_cmp x.0 y.0) (simplex_cmp y.1.0 x.1.0)

abbrev pub faces_in : List Rank → List (List ℕ)
faces_in ranks = map (λ r. r.1.0) ranks

pub record IsRanked (ranks : List Rank) : Type 0 where
  pub order : IsHeap rank_cmp ranks
  pub sizes : (r : Rank) → In r ranks → r.0 ≡ length r.1.0

-- s is taken before all others of the list
pub record IsTakenFirst (s : List ℕ) (queue : List (List ℕ)) : Type 0 where
  pub longest : (t : List ℕ) → In t queue → length t ≤ length s
  pub least : (t : List ℕ) → In t queue → length t ≡ length s → is_lt (simplex_cmp t s) ≡ false

-- all that was in the queue is in it
abbrev pub Grows : List (List ℕ) → List (List ℕ) → Type 0
Grows old new = (t : List ℕ) → In t old → In t new

-- the simplex waits where it is free, and where it is a nonempty facet
pub record Waits (c free tops : List (List ℕ)) (s : List ℕ) : Type 0 where
  pub as_free : IsTrue (is_free c s) → In s free
  pub as_top : IsTrue (is_top c s) → In s tops

-- each free face waits, and each nonempty facet
pub record IsReady (c free tops : List (List ℕ)) : Type 0 where
  pub facets : IsFacets c
  pub wait : (s : List ℕ) → IsTrue (is_simplex s) → Waits c free tops s

-- the same of all but this one
pub record IsReadyBut (f : List ℕ) (c free tops : List (List ℕ)) : Type 0 where
  pub facets : IsFacets c
  pub wait : (s : List ℕ) → IsTrue (is_simplex s) → (s ≡ f) ⊎ Waits c free tops s
