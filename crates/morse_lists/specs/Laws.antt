-- What Morse lists tell of a complex.
use Rattle.std.specs.Prelude.{◌≡◌, ◌↔◌, ℕ, List, pos, ◌≤ℤ◌, None, IsPermutation, IsTrue}
use Rattle.std.specs.List.{list_all}
use Rattle.simplex.specs.Simplex.{is_simplex, simplex_cmp}
use Rattle.facet_set.specs.Complex.{is_complex}
use Rattle.facet_set.specs.Numbers.{f_vector}
use Rattle.face_vectors.specs.Vectors.{alternating}
use Rattle.gf2_rank.specs.Span.{rank}
use Rattle.betti_tables.specs.Ranks.{betti_number}
use Rattle.morse_lists.specs.declared.morse_step.MorseStep.{MorseStep}
use Rattle.morse_lists.specs.Morse.{is_morse_list, morse_fault, critical_count, critical_counts}

-- the list is a Morse list of the complex, and its faces are simplices
pub record IsMorseListOf (c : List (List ℕ)) (ms : List MorseStep) : Type 0 where
  pub simplices : IsTrue (list_all is_simplex c)
  pub complex : IsTrue (is_complex c)
  pub faces : IsTrue (list_all (λ m. is_simplex m.low) ms)
  pub list : IsTrue (is_morse_list c ms)

-- b_k ≤ c_k (Forman; Morse)
abbrev pub MorseInequalities : Type 0
MorseInequalities = (c : List (List ℕ)) (ms : List MorseStep) (k : ℕ) → IsMorseListOf c ms → betti_number c k ≤ℤ pos (critical_count ms k)

-- c_0 - c_1 + c_2 - .. is the Euler characteristic
abbrev pub MorseEuler : Type 0
MorseEuler = (c : List (List ℕ)) (ms : List MorseStep) → IsMorseListOf c ms → alternating (critical_counts c ms) ≡ alternating (f_vector c)

-- a list has no fault just where it is a Morse list
abbrev pub FaultlessIsMorseList : Type 0
FaultlessIsMorseList = (c : List (List ℕ)) (ms : List MorseStep) → (morse_fault c ms ≡ None) ↔ IsTrue (is_morse_list c ms)

-- the rank of columns does not depend on their order
abbrev pub RankOfAnyOrder : Type 0
RankOfAnyOrder = (xs ys : List (List (List ℕ))) → IsPermutation xs ys → rank simplex_cmp ys ≡ rank simplex_cmp xs
