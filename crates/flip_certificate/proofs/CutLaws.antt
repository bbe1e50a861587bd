-- What stands before the first byte that passes a test, and behind it.
use Rattle.std.proofs.Common.{◌≡◌, ℕ, ◌+◌, ◌<◌, ◌≤◌, Bool, true, false, cond, List, [], ◌∷◌, length, take, drop, refl, ap, ◌∙◌, subst, arith, ltb, Option, Some, None}
use Rattle.std.specs.Borrow.{Bor}
use Rattle.std.specs.List.{onto_first, position, position_or_len, slice_split}
use Rattle.std.specs.Option.{MatchOption}
use Rattle.std.specs.Prelude.{◌==◌}
use Rattle.std.proofs.lemmas.List.Splits.{slice_split_first, slice_split_none}
use Rattle.std.proofs.lemmas.List.Sums.{fails_before_first}
use Rattle.std.proofs.lemmas.Bool.Decides.{nat_tests}
use Rattle.flip_certificate.proofs.SpelledLaws.{none_some, some_is}

below : (n m : ℕ) → ltb n m ≡ true → n < m
below n m e = grind (arith, nat_tests)

not_below : (n m : ℕ) → ltb n m ≡ false → m ≤ n
not_below n m e = grind (arith, nat_tests)

module _ (p : ℕ → Bool) (xs : List ℕ) where
  pub cut_some : (i : ℕ) → position p xs ≡ Some i → slice_split p xs ≡ take i xs ∷ slice_split p (drop (i + 1) xs)
  cut_some i e = by (ltb (position_or_len p xs) (length xs)) refl e
    where
      by : (v : Bool) → ltb (position_or_len p xs) (length xs) ≡ v → cond v (Some (position_or_len p xs)) None ≡ Some i → slice_split p xs ≡ take i xs ∷ slice_split p (drop (i + 1) xs)
      by true h f = subst (λ k. slice_split p xs ≡ take k xs ∷ slice_split p (drop (k + 1) xs)) (some_is f) (slice_split_first p xs 0 (below _ _ h))
      by false h f = absurd (none_some f)

  pub cut_none : position p xs ≡ None → slice_split p xs ≡ xs ∷ []
  cut_none e = by (ltb (position_or_len p xs) (length xs)) refl e
    where
      none_passes : length xs ≤ position_or_len p xs → slice_split p xs ≡ xs ∷ []
      none_passes h = slice_split_none p xs (λ k d l. fails_before_first p xs k d (omega arith))

      some_none : {n : ℕ} → Some n ≡ None → ⊥
      some_none e = cc

      by : (v : Bool) → ltb (position_or_len p xs) (length xs) ≡ v → cond v (Some (position_or_len p xs)) None ≡ None → slice_split p xs ≡ xs ∷ []
      by true h f = absurd (some_none f)
      by false h f = none_passes (not_below _ _ h)

-- there is a first part
pub first_part : (p : ℕ → Bool) (xs : List ℕ) → (l : List ℕ) × (ls : List (List ℕ)) × (slice_split p xs ≡ l ∷ ls)
first_part p [] = ([], [], refl)
first_part p (x ∷ xs) = by (p x) refl (first_part p xs)
  where
    by : (v : Bool) → p x ≡ v → (l : List ℕ) × (ls : List (List ℕ)) × (slice_split p xs ≡ l ∷ ls) → (l : List ℕ) × (ls : List (List ℕ)) × (slice_split p (x ∷ xs) ≡ l ∷ ls)
    by true e r = ([], slice_split p xs, ap (λ v. cond v ([] ∷ slice_split p xs) (onto_first x (slice_split p xs))) e)
    by false e r = (x ∷ r.0, r.1, ap (λ v. cond v ([] ∷ slice_split p xs) (onto_first x (slice_split p xs))) e ∙ ap (onto_first x) r.2)

-- what a cut says of the parts
module _ (c : ℕ) (bytes first : List ℕ) where
  abbrev pub IsCut : Option (Bor (List ℕ)) → Type 0
  IsCut o = MatchOption o (slice_split (λ b. b == c) bytes ≡ first ∷ []) (λ rest. slice_split (λ b. b == c) bytes ≡ first ∷ slice_split (λ b. b == c) rest.now)

  pub no_more : (o : Option (Bor (List ℕ))) → IsCut o → o ≡ None → slice_split (λ b. b == c) bytes ≡ first ∷ []
  no_more o h e = subst IsCut e h

  pub one_more : (o : Option (Bor (List ℕ))) (rest : Bor (List ℕ)) → IsCut o → o ≡ Some rest → slice_split (λ b. b == c) bytes ≡ first ∷ slice_split (λ b. b == c) rest.now
  one_more o rest h e = subst IsCut e h
