-- How long blocks are.
use Rattle.std.proofs.Common.{◌≡◌, ℕ, zero, suc, ◌+◌, ◌-◌, ◌*◌, ◌<◌, ◌≤◌, true, List, [], ◌∷◌, length, take, set, get_or, refl, ap, arith, length-append}
use Rattle.std.specs.Prelude.{nat_lt}
use Rattle.std.specs.List.{insert, remove}
use Rattle.std.proofs.lemmas.Bool.Decides.{nat_tests}
use Rattle.simplex.proofs.InOrderLaws.{and_left, and_right, and_both}
use Rattle.ranked_set.specs.Blocks.{joined, are_short, excess}

module _ {X : Type 0} where
  short_is : (b : List X) → nat_lt (length b) 128 ≡ true → length b < 128
  short_is b h = grind (arith, nat_tests)

  short_from : (b : List X) → length b < 128 → nat_lt (length b) 128 ≡ true
  short_from b h = grind (arith, nat_tests)

  pub short_at : (bs : List (List X)) (k : ℕ) → k < length bs → are_short bs ≡ true → length (get_or bs k []) < 128
  short_at [] k h s = absurd (omega arith)
  short_at (b ∷ bs) zero h s = short_is b (and_left _ _ s)
  short_at (b ∷ bs) (suc k) h s = short_at bs k (omega (arith, h)) (and_right (nat_lt (length b) 128) _ s)

  pub short-set : (bs : List (List X)) (k : ℕ) (b : List X) → are_short bs ≡ true → length b < 128 → are_short (set bs k b) ≡ true
  short-set [] k b s h = refl
  short-set (c ∷ bs) zero b s h = and_both _ _ (short_from b h) (and_right (nat_lt (length c) 128) _ s)
  short-set (c ∷ bs) (suc k) b s h = and_both _ _ (and_left _ _ s) (short-set bs k b (and_right (nat_lt (length c) 128) _ s) h)

  pub short-insert : (bs : List (List X)) (k : ℕ) (b : List X) → are_short bs ≡ true → length b < 128 → are_short (insert bs k b) ≡ true
  short-insert [] zero b s h = and_both _ _ (short_from b h) refl
  short-insert [] (suc k) b s h = and_both _ _ (short_from b h) refl
  short-insert (c ∷ bs) zero b s h = and_both _ _ (short_from b h) s
  short-insert (c ∷ bs) (suc k) b s h = and_both _ _ (and_left _ _ s) (short-insert bs k b (and_right (nat_lt (length c) 128) _ s) h)

  pub short-remove : (bs : List (List X)) (k : ℕ) → are_short bs ≡ true → are_short (remove bs k) ≡ true
  short-remove [] zero s = refl
  short-remove [] (suc k) s = refl
  short-remove (c ∷ bs) zero s = and_right (nat_lt (length c) 128) _ s
  short-remove (c ∷ bs) (suc k) s = and_both _ _ (and_left _ _ s) (short-remove bs k (and_right (nat_lt (length c) 128) _ s))

  pub excess-set : (bs : List (List X)) (k : ℕ) (b : List X) → k < length bs → excess (set bs k b) + (length (get_or bs k []) - 64) ≡ excess bs + (length b - 64)
  excess-set [] k b h = absurd (omega arith)
  excess-set (c ∷ bs) zero b h = omega arith
  excess-set (c ∷ bs) (suc k) b h = let r = excess-set bs k b (omega (arith, h)) in omega arith

  pub excess-insert : (bs : List (List X)) (k : ℕ) (b : List X) → excess (insert bs k b) ≡ excess bs + (length b - 64)
  excess-insert [] zero b = omega arith
  excess-insert [] (suc k) b = omega arith
  excess-insert (c ∷ bs) zero b = omega arith
  excess-insert (c ∷ bs) (suc k) b = let r = excess-insert bs k b in omega arith

  pub excess-remove : (bs : List (List X)) (k : ℕ) → excess (remove bs k) ≤ excess bs
  excess-remove [] zero = omega arith
  excess-remove [] (suc k) = omega arith
  excess-remove (c ∷ bs) zero = omega arith
  excess-remove (c ∷ bs) (suc k) = let r = excess-remove bs k in omega arith

  pub excess_most : (bs : List (List X)) → are_short bs ≡ true → excess bs ≤ 64 * length bs
  excess_most [] s = omega arith
  excess_most (b ∷ bs) s = let r = excess_most bs (and_right (nat_lt (length b) 128) _ s) in let l = short_is b (and_left _ _ s) in omega arith

  pub length_most : (bs : List (List X)) → are_short bs ≡ true → length (joined bs) ≤ 128 * length bs
  length_most [] s = omega arith
  length_most (b ∷ bs) s =
      let r = length_most bs (and_right (nat_lt (length b) 128) _ s) in
      let l = short_is b (and_left _ _ s) in
      omega (arith, length-append b (joined bs))

  pub excess_more : (bs : List (List X)) (k : ℕ) (b : List X) → k < length bs → b ≡ get_or bs k b → excess (take (k + 1) bs) ≡ excess (take k bs) + (length b - 64)
  excess_more [] k b h e = absurd (omega arith)
  excess_more (c ∷ bs) zero b h e = let f = ap length e in omega arith
  excess_more (c ∷ bs) (suc k) b h e =
      let r = excess_more bs k b (omega (arith, h)) e in
      let n : suc k + 1 ≡ suc (k + 1) = omega arith in
      let m : excess (take (suc k + 1) (c ∷ bs)) ≡ excess (take (suc (k + 1)) (c ∷ bs)) = ap (λ j. excess (take j (c ∷ bs))) n in
      omega arith

  pub excess_front : (bs : List (List X)) (k : ℕ) → are_short bs ≡ true → excess (take k bs) ≤ 64 * k
  excess_front bs zero s = omega arith
  excess_front [] (suc k) s = omega arith
  excess_front (b ∷ bs) (suc k) s = let r = excess_front bs k (and_right (nat_lt (length b) 128) _ s) in let l = short_is b (and_left _ _ s) in omega arith
