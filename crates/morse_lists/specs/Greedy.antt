-- The greedy Morse list of a complex. The order is own.
use Rattle.std.specs.Prelude.{◌≡◌, ◌⊎◌, ℕ, ◌≤◌, Bool, false, List, [], ◌∷◌, length, Some, IsTrue}
use Rattle.std.specs.List.{list_all}
use Rattle.std.specs.Ordering.{is_lt}
use Rattle.simplex.specs.Simplex.{is_simplex, simplex_cmp}
use Rattle.facet_set.specs.Complex.{is_complex}
use Rattle.collapse_moves.specs.Collapses.{partner, is_free}
use Rattle.morse_lists.specs.declared.morse_step.MorseStep.{MorseStep}
use Rattle.morse_lists.specs.Morse.{is_bare, is_top, after_step}

-- of the simplices that pass the test, s is the least of those with the most labels
pub record IsFirst (test : List ℕ → Bool) (s : List ℕ) : Type 0 where
  pub passes : IsTrue (test s)
  pub longest : (t : List ℕ) → IsTrue (is_simplex t) → IsTrue (test t) → length t ≤ length s
  pub least : (t : List ℕ) → IsTrue (is_simplex t) → IsTrue (test t) → length t ≡ length s → is_lt (simplex_cmp t s) ≡ false

-- the collapse at the first free face
pub record IsGreedyCollapse (c : List (List ℕ)) (m : MorseStep) : Type 0 where
  pub free : IsFirst (is_free c) m.low
  pub partner : partner c m.low ≡ Some m.high

-- where no face is free, the first nonempty facet, as critical
pub record IsGreedyDrop (c : List (List ℕ)) (m : MorseStep) : Type 0 where
  pub none : (s : List ℕ) → IsTrue (is_simplex s) → is_free c s ≡ false
  pub one : m.high ≡ m.low
  pub top : IsFirst (is_top c) m.low

-- each step is the greedy one where it stands, and no nonempty face is left
abbrev pub IsGreedyList : List (List ℕ) → List MorseStep → Type 0
IsGreedyList c [] = IsTrue (is_bare c)
IsGreedyList c (m ∷ ms) = (IsGreedyCollapse c m ⊎ IsGreedyDrop c m) × IsGreedyList (after_step c m) ms

-- the faces that go first are simplices
abbrev pub HasSimplices : List MorseStep → Type 0
HasSimplices ms = IsTrue (list_all (λ m. is_simplex m.low) ms)

-- a complex has one greedy list at most
abbrev pub GreedyIsOne : Type 0
GreedyIsOne = (c : List (List ℕ)) (ms ns : List MorseStep) → IsTrue (list_all is_simplex c) → IsTrue (is_complex c) → HasSimplices ms → HasSimplices ns → IsGreedyList c ms → IsGreedyList c ns → ms ≡ ns
