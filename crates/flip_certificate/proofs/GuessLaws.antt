-- The guess finds the numbers of a spelled simplex.
use Rattle.std.proofs.Common.{◌≡◌, ℕ, suc, ◌+◌, ◌-◌, ◌*◌, ◌^◌, ◌<◌, ◌≤◌, Bool, true, false, not, cond, List, [], ◌∷◌, ◌++◌, map, length, take, get_or, refl, sym, ap, ◌∙◌, arith, rules, leb}
use mathlib.Core.List.{append_assoc}
use Rattle.std.specs.Prelude.{◌==◌, min}
use Rattle.std.specs.Fmt.{decimal}
use Rattle.std.specs.Str.{all_ascii_digits}
use Rattle.std.specs.Char.{is_ascii_digit}
use Rattle.std.specs.List.{list_all, filter, slice_split, onto_first, join_with_byte}
use Rattle.std.proofs.lemmas.Str.Parse.{IsNumeralModel, numerals_by_fold}
use Rattle.std.proofs.lemmas.Fmt.{digits_decimal, digits_value-decimal, decimal_nonempty}
use Rattle.std.proofs.lemmas.Bool.Decides.{nat_tests}
use Rattle.std.proofs.lemmas.List.{take_more}
use Rattle.simplex.proofs.InOrderLaws.{and_left, and_right, and_both}
use Rattle.plain_text.specs.Bytes.{is_digit, value_onto}
use Rattle.plain_text.specs.Printing.{simplex_text}
use Rattle.flip_certificate.specs.Reading.{numbers_in, number_of}

module _ {X : Type 0} (p : X → Bool) where
  pub split_at_one : (xs ys : List X) (c : X) → list_all (λ x. not (p x)) xs ≡ true → p c ≡ true → slice_split p (xs ++ c ∷ ys) ≡ xs ∷ slice_split p ys
  split_at_one [] ys c h k = ap (λ v. cond v ([] ∷ slice_split p ys) (onto_first c (slice_split p ys))) k
  split_at_one (x ∷ xs) ys c h k =
      let off : p x ≡ false = by (p x) (and_left _ _ h) in
      ap (λ v. cond v ([] ∷ slice_split p (xs ++ c ∷ ys)) (onto_first x (slice_split p (xs ++ c ∷ ys)))) off
      ∙ ap (onto_first x) (split_at_one xs ys c (and_right (not (p x)) _ h) k)
    where
      by : (v : Bool) → not v ≡ true → v ≡ false
      by true e = sym e
      by false e = refl

own : IsNumeralModel (λ ds. all_ascii_digits ds ≡ true) (value_onto 0)
own = numerals_by_fold _ (search rules) value_onto (search rules)

pub value-decimal : (n : ℕ) → n < 2 ^ 64 → value_onto 0 (decimal n) ≡ n
value-decimal n h = digits_value-decimal own n h

same_digit : (c : ℕ) → is_ascii_digit c ≡ is_digit c
same_digit c = grind (arith, nat_tests)

abbrev pub apart : ℕ → Bool
apart c = not (is_digit c)

no_apart : (ds : List ℕ) → all_ascii_digits ds ≡ true → list_all (λ c. not (apart c)) ds ≡ true
no_apart [] h = refl
no_apart (c ∷ ds) h = and_both _ _ (twice (is_digit c) (sym (same_digit c) ∙ and_left _ _ h)) (no_apart ds (and_right (is_ascii_digit c) _ h))
  where
    twice : (v : Bool) → v ≡ true → not (not v) ≡ true
    twice v e = ap (λ w. not (not w)) e

pub digits-decimal : (n : ℕ) → n < 2 ^ 64 → list_all (λ c. not (apart c)) (decimal n) ≡ true
digits-decimal n h = no_apart (decimal n) (digits_decimal own n h)

abbrev pub is_filled : List ℕ → Bool
is_filled ds = not (length ds == 0)

pub filled-decimal : (n : ℕ) → n < 2 ^ 64 → is_filled (decimal n) ≡ true
filled-decimal n h = by (decimal n) (decimal_nonempty n h)
  where
    by : (ds : List ℕ) → 0 < length ds → is_filled ds ≡ true
    by [] e = absurd (omega arith)
    by (d ∷ ds) e = some (length ds)
      where
        some : (k : ℕ) → not (suc k == 0) ≡ true
        some k = grind (arith, nat_tests)

abbrev pub are_small : List ℕ → Bool
are_small = list_all (λ n. leb n 1000000)

pub small_is : (n : ℕ) → leb n 1000000 ≡ true → n < 2 ^ 64
small_is n h = let e : n ≤ 1000000 = grind (arith, nat_tests) in omega arith

-- one more digit
value_more : (ds : List ℕ) (n c : ℕ) → value_onto n (ds ++ c ∷ []) ≡ 10 * value_onto n ds + (c - 48)
value_more [] n c = refl
value_more (d ∷ ds) n c = value_more ds (10 * n + (d - 48)) c

pub number_more : (ds : List ℕ) (c : ℕ) → number_of (ds ++ c ∷ []) ≡ min (min (10 * number_of ds) (2 ^ 32 - 1) + (c - 48)) (2 ^ 32 - 1)
number_more ds c = ap (λ v. min v (2 ^ 32 - 1)) (value_more ds 0 c) ∙ capped (value_onto 0 ds) (c - 48)
  where
    capped : (v e : ℕ) → min (10 * v + e) (2 ^ 32 - 1) ≡ min (min (10 * min v (2 ^ 32 - 1)) (2 ^ 32 - 1) + e) (2 ^ 32 - 1)
    capped v e = omega arith

-- one digit further
pub number_step : (digits : List ℕ) (i n m r : ℕ) → i < length digits → n ≡ number_of (take i digits) → m ≡ min (n * 10) (2 ^ 32 - 1) → r ≡ min (m + (get_or digits i 0 - 48)) (2 ^ 32 - 1) → r ≡ number_of (take (i + 1) digits)
number_step digits i n m r l e f g =
    let d = get_or digits i 0 in
    let times : n * 10 ≡ 10 * n = omega arith in
    g ∙ ap (λ k. min (k + (d - 48)) (2 ^ 32 - 1)) (f ∙ ap (λ k. min k (2 ^ 32 - 1)) (times ∙ ap (λ k. 10 * k) e))
    ∙ sym (ap number_of (take_more digits i 0 l) ∙ number_more (take i digits) d)

-- a label is read back
pub number_back : (n : ℕ) → leb n 1000000 ≡ true → number_of (decimal n) ≡ n
number_back n h = ap (λ v. min v (2 ^ 32 - 1)) (value-decimal n (small_is n h)) ∙ least n (grind (arith, nat_tests))
  where
    least : (n : ℕ) → n ≤ 1000000 → min n (2 ^ 32 - 1) ≡ n
    least n e = omega arith

-- the pieces of a list of numbers and its closing bracket
pub split-numbers : (n : ℕ) (ns : List ℕ) → are_small (n ∷ ns) ≡ true → slice_split apart (join_with_byte 44 (map decimal (n ∷ ns)) ++ 93 ∷ []) ≡ map decimal (n ∷ ns) ++ [] ∷ []
split-numbers n [] h = split_at_one apart (decimal n) [] 93 (digits-decimal n (small_is n (and_left _ _ h))) refl
split-numbers n (m ∷ ns) h =
    ap (slice_split apart) (append_assoc (decimal n) (44 ∷ join_with_byte 44 (map decimal (m ∷ ns))) (93 ∷ []))
    ∙ split_at_one apart (decimal n) (join_with_byte 44 (map decimal (m ∷ ns)) ++ 93 ∷ []) 44 (digits-decimal n (small_is n (and_left _ _ h))) refl
    ∙ ap (λ ps. decimal n ∷ ps) (split-numbers m ns (and_right (leb n 1000000) _ h))

values-back : (ns : List ℕ) → are_small ns ≡ true → map number_of (filter is_filled (map decimal ns ++ [] ∷ [])) ≡ ns
values-back [] h = refl
values-back (n ∷ ns) h =
    ap (λ v. map number_of (cond v (decimal n ∷ filter is_filled (map decimal ns ++ [] ∷ [])) (filter is_filled (map decimal ns ++ [] ∷ [])))) (filled-decimal n (small_is n (and_left _ _ h)))
    ∙ (λ i. number_back n (and_left _ _ h) i ∷ values-back ns (and_right (leb n 1000000) _ h) i)

-- the numbers of a spelled simplex are its labels
pub numbers_in-simplex : (s : List ℕ) → are_small s ≡ true → numbers_in (simplex_text s) ≡ s
numbers_in-simplex [] h = refl
numbers_in-simplex (n ∷ s) h =
    ap (λ ps. map number_of (filter is_filled ([] ∷ ps))) (split-numbers n s h) ∙ values-back (n ∷ s) h
