-- Discrete Morse lists (Forman): lists of steps that take a complex down, each by an elementary collapse or by a critical facet.
--     is_possible C m        the step m is possible on C
--     after_step C m         what it leads to
--     is_morse_list C ms     each step is possible where it stands, and no nonempty face is left
--     critical_count ms k    c_k, the number of critical steps with k + 1 labels
use Rattle.std.specs.Prelude.{ℕ, ◌+◌, Bool, false, not, ◌&&◌, ◌==◌, List, [], ◌∷◌, map, length, Option, Some, None, if◌then◌else◌}
use Rattle.std.specs.List.{filter, list_all, range_with_len}
use Rattle.simplex.specs.FirstFailing.{first_failing}
use Rattle.simplex.specs.Simplex.{is_same}
use Rattle.facet_set.specs.Complex.{stands_in}
use Rattle.facet_set.specs.Numbers.{size}
use Rattle.collapse_moves.specs.Collapses.{partner, is_free, collapse, drop_face}
use Rattle.morse_lists.specs.declared.morse_fault.MorseFault.{MorseFault}
use Rattle.morse_lists.specs.declared.morse_fault.MorseFault.TheVariants.{Step, Rest}
use Rattle.morse_lists.specs.declared.morse_step.MorseStep.{MorseStep}

-- whether the step is that of one facet, and no collapse
abbrev pub is_critical : MorseStep → Bool
is_critical m = is_same m.low m.high

-- whether the simplex is a facet and not empty
abbrev pub is_top : List (List ℕ) → List ℕ → Bool
is_top c s = not (length s == 0) && stands_in c s

-- whether the value is this simplex
abbrev pub is_value : List ℕ → Option (List ℕ) → Bool
is_value t None = false
is_value t (Some u) = is_same u t

-- the one face in which the simplex lies properly, where it is free
abbrev pub free_partner : List (List ℕ) → List ℕ → Option (List ℕ)
free_partner c s = if is_free c s then partner c s else None

-- low and high are one nonempty facet, or low is free and lies properly in high alone
abbrev pub is_possible : List (List ℕ) → MorseStep → Bool
is_possible c m = if is_critical m then is_top c m.low else is_value m.high (free_partner c m.low)

-- a critical facet goes alone, and a free face with the face in which it lies
abbrev pub after_step : List (List ℕ) → MorseStep → List (List ℕ)
after_step c m = if is_critical m then drop_face c m.low else collapse c m.low

abbrev pub after_steps : List (List ℕ) → List MorseStep → List (List ℕ)
after_steps c [] = c
after_steps c (m ∷ ms) = after_steps (after_step c m) ms

-- whether there is no nonempty face
abbrev pub is_bare : List (List ℕ) → Bool
is_bare c = list_all (λ s. length s == 0) c

abbrev pub is_morse_list : List (List ℕ) → List MorseStep → Bool
is_morse_list c [] = is_bare c
is_morse_list c (m ∷ ms) = is_possible c m && is_morse_list (after_step c m) ms

-- step by step from the given number on, and what is left at the end
abbrev pub morse_tests : ℕ → List (List ℕ) → List MorseStep → List (Bool × MorseFault)
morse_tests at c [] = (is_bare c, Rest) ∷ []
morse_tests at c (m ∷ ms) = (is_possible c m, Step at) ∷ morse_tests (at + 1) (after_step c m) ms

-- why the list is no Morse list of the complex, if it is none
abbrev pub morse_fault : List (List ℕ) → List MorseStep → Option MorseFault
morse_fault c ms = first_failing (morse_tests 1 c ms)

-- whether the step is critical and its facet has k + 1 labels
abbrev pub is_critical_of : ℕ → MorseStep → Bool
is_critical_of k m = is_critical m && (length m.low == k + 1)

abbrev pub critical_count : List MorseStep → ℕ → ℕ
critical_count ms k = length (filter (is_critical_of k) ms)

-- c_0, .., c_d
abbrev pub critical_counts : List (List ℕ) → List MorseStep → List ℕ
critical_counts c ms = map (critical_count ms) (range_with_len 0 (size c))
