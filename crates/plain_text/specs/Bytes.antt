-- The kinds of bytes, and what runs of them are.
use Rattle.std.specs.Prelude.{ℕ, ◌+◌, ◌-◌, ◌*◌, Bool, false, not, ◌&&◌, ◌||◌, List, [], ◌∷◌, length, nat_le, nat_lt, nat_eq, ◌==◌, Option, Some, None, if◌then◌else◌}
use Rattle.std.specs.List.{list_all}
use Rattle.std.specs.Cmp.Lexicographic.{pointwise}

abbrev pub is_between : ℕ → ℕ → ℕ → Bool
is_between low high c = nat_le low c && nat_le c high

-- 0 to 9
abbrev pub is_digit : ℕ → Bool
is_digit = is_between 48 57

-- A to Z and a to z
abbrev pub is_letter : ℕ → Bool
is_letter c = is_between 65 90 c || is_between 97 122 c

-- letters, digits and the underscore
abbrev pub is_run_byte : ℕ → Bool
is_run_byte c = is_letter c || is_digit c || (c == 95)

-- space, tab, carriage return and line feed
abbrev pub is_white : ℕ → Bool
is_white c = (c == 32) || (c == 9) || (c == 13) || (c == 10)

-- whether the bytes are this text
abbrev pub is_text : List ℕ → List ℕ → Bool
is_text = pointwise nat_eq

-- whether the run is a word
abbrev pub is_word : List ℕ → Bool
is_word [] = false
is_word (c ∷ cs) = is_letter c && list_all is_run_byte cs && nat_lt (length cs) 32

-- whether the run is a number: 0, or at most 18 digits of which the first is not 0
abbrev pub is_number : List ℕ → Bool
is_number [] = false
is_number (c ∷ cs) = list_all is_digit (c ∷ cs) && nat_lt (length cs) 18 && (not (c == 48) || (length cs == 0))

-- the number that digits stand for, after the number so far
abbrev pub value_onto : ℕ → List ℕ → ℕ
value_onto n [] = n
value_onto n (c ∷ cs) = value_onto (10 * n + (c - 48)) cs

-- the number that the run is, if it is one
abbrev pub number_of : List ℕ → Option ℕ
number_of w = if is_number w then Some (value_onto 0 w) else None
