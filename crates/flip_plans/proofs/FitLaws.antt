-- Labels that are gathered one by one, where a simplex has room for them.
use Rattle.std.proofs.Common.{◌≡◌, ℕ, ◌+◌, ◌<◌, ◌≤◌, Bool, true, false, not, cond, leb, ◌&&◌, ◌||◌, List, [], ◌∷◌, ◌++◌, length, take, drop, get_or, Option, Some, None, refl, sym, ap, ◌∙◌, inl, inr, arith, length-append, take-append-drop}
use mathlib.Core.Bool.{true≢false}
use Rattle.std.specs.Prelude.{◌==◌, ◌↔◌, IfSome, IsSome, is_some, unwrap_or}
use Rattle.std.specs.Ordering.{nat_cmp}
use Rattle.std.specs.List.{list_all, filter}
use Rattle.std.proofs.lemmas.Bool.{le-leb}
use Rattle.std.proofs.lemmas.Bool.Decides.{nat_tests}
use Rattle.std.proofs.lemmas.List.{take_more, take_all}
use Rattle.std.proofs.lemmas.List.Elements.{filter-append}
use Rattle.simplex.specs.InOrder.{is_increasing}
use Rattle.simplex.specs.Simplex.{has, is_label, is_simplex, is_within, union}
use Rattle.simplex.proofs.Filled.{all_front, rising_front, short_of, simplex_from}
use Rattle.simplex.proofs.SimplexLaws.{has-union, in_union, in_within, is_increasing-filter, is_increasing-union, list_all-filter, within_length}
use Rattle.simplex.specs.declared.flip.Flip.{Flip}
use Rattle.flip_plans.specs.Steps.{AreLabels, fitting}
use Rattle.flip_plans.specs.Turns.{turned}

pub none_above : (l : List ℕ) → 12 < length l → fitting l ≡ None
none_above l h = ap (λ v. cond v (Some l) None) (above (length l) h)
  where
    above : (n : ℕ) → 12 < n → leb n 12 ≡ false
    above n h = grind (arith, nat_tests)

module _ (p : ℕ → Bool) (xs key : List ℕ) (i : ℕ) where
  -- the labels that pass, with the next one
  next_is : i < length xs → key ≡ filter p (take i xs) → p (get_or xs i 0) ≡ true → filter p (take (i + 1) xs) ≡ key ++ get_or xs i 0 ∷ []
  next_is below e h =
      ap (filter p) (take_more xs i 0 below) ∙ filter-append p (take i xs) (get_or xs i 0 ∷ [])
      ∙ (λ k. sym e k ++ cond (h k) (get_or xs i 0 ∷ []) [])

  split : (n : ℕ) → filter p xs ≡ filter p (take n xs) ++ filter p (drop n xs)
  split n = ap (filter p) (sym (take-append-drop n xs)) ∙ filter-append p (take n xs) (drop n xs)

  pub pushed : AreLabels xs → i < length xs → key ≡ filter p (take i xs) → p (get_or xs i 0) ≡ true → is_simplex key ≡ true → (length key ≡ 12 → ⊥) → is_simplex (key ++ get_or xs i 0 ∷ []) ≡ true
  pushed a below e h s more =
      let short = short_of key s in
      let len = length-append key (get_or xs i 0 ∷ []) in
      let whole = next_is below e h in
      simplex_from (key ++ get_or xs i 0 ∷ []) (omega arith)
      (ap (list_all is_label) (sym whole) ∙ list_all-filter is_label p (take (i + 1) xs) (all_taken (i + 1) xs a.all))
      (ap (is_increasing nat_cmp) (sym whole) ∙ is_increasing-filter nat_cmp p (take (i + 1) xs) (rising_taken (i + 1) xs a.rising))
    where
      all_taken : (n : ℕ) (xs : List ℕ) → list_all is_label xs ≡ true → list_all is_label (take n xs) ≡ true
      all_taken n xs h = all_front is_label (take n xs) (drop n xs) (ap (list_all is_label) (take-append-drop n xs) ∙ h)

      rising_taken : (n : ℕ) (xs : List ℕ) → is_increasing nat_cmp xs ≡ true → is_increasing nat_cmp (take n xs) ≡ true
      rising_taken n xs h = rising_front (take n xs) (drop n xs) (ap (is_increasing nat_cmp) (take-append-drop n xs) ∙ h)

  -- one label more than a simplex has room for
  pub too_many : i < length xs → key ≡ filter p (take i xs) → p (get_or xs i 0) ≡ true → length key ≡ 12 → fitting (filter p xs) ≡ None
  too_many below e h full =
      let whole = next_is below e h in
      let len = length-append key (get_or xs i 0 ∷ []) in
      let rest = ap length (split (i + 1)) ∙ length-append (filter p (take (i + 1) xs)) (filter p (drop (i + 1) xs)) in
      let front = ap length whole in
      none_above (filter p xs) (omega (arith, len, rest, front, full))

  pub all_in : length xs ≤ i → key ≡ filter p (take i xs) → is_simplex key ≡ true → Some key ≡ fitting (filter p xs)
  all_in past e s =
      let whole : key ≡ filter p xs = e ∙ ap (filter p) (take_all i xs past) in
      ap Some whole ∙ sym (ap (λ v. cond v (Some (filter p xs)) None) (le-leb (length (filter p xs)) 12 (let n = short_of key s in let l = ap length whole in omega (arith, n, l))))

pub completes_is : (a s : List ℕ) (x : ℕ) → list_all (λ y. has s y || (y == x)) a ≡ is_within a (union s (x ∷ []))
completes_is [] s x = refl
completes_is (y ∷ a) s x = λ i. (ends (has s y) (y == x) ∙ sym (has-union s (x ∷ []) y)) i && completes_is a s x i
  where
    ends : (v w : Bool) → (v || w) ≡ (v || (w || false))
    ends true w = refl
    ends false true = refl
    ends false false = refl

-- ---- two parts of a set
below_fit : (l : List ℕ) → fitting l ≡ None → 12 < length l
below_fit l h = by (leb (length l) 12) refl h
  where
    by : (v : Bool) → leb (length l) 12 ≡ v → cond v (Some l) None ≡ None → 12 < length l
    by true e k = absurd (true≢false (ap is_some k))
    by false e k = grind (arith, nat_tests)

pub fits : (l s : List ℕ) → Some s ≡ fitting l → (s ≡ l) × (length l ≤ 12)
fits l s h = by (leb (length l) 12) refl h
  where
    by : (v : Bool) → leb (length l) 12 ≡ v → Some s ≡ cond v (Some l) None → (s ≡ l) × (length l ≤ 12)
    by true e k = (ap (λ o. unwrap_or o []) k, grind (arith, nat_tests))
    by false e k = absurd (true≢false (ap is_some k))

module _ (kept beside : List ℕ) (uk : is_increasing nat_cmp kept ≡ true) (ub : is_increasing nat_cmp beside ≡ true) where
  pub long_left : fitting kept ≡ None → None ≡ fitting (union kept beside)
  long_left h =
      let n = below_fit kept h in
      let l = within_length kept (union kept beside) uk (is_increasing-union kept beside) (in_within kept (union kept beside) (λ x i. in_union kept beside x (inl i))) in
      sym (none_above (union kept beside) (omega arith))

  pub long_right : fitting beside ≡ None → None ≡ fitting (union kept beside)
  long_right h =
      let n = below_fit beside h in
      let l = within_length beside (union kept beside) ub (is_increasing-union kept beside) (in_within beside (union kept beside) (λ x i. in_union kept beside x (inr i))) in
      sym (none_above (union kept beside) (omega arith))

  pub both_fit : (r : Option (List ℕ)) (s t : List ℕ) → s ≡ kept → t ≡ beside → IsSome r ↔ (length (union s t) ≤ 12) → IfSome r (λ u. u ≡ union s t) → r ≡ fitting (union kept beside)
  both_fit None s t e f v h =
      sym (none_above (union kept beside) (let q = ap length (λ i. union (e i) (f i)) in over (λ k. true≢false (sym (v.1 (omega (arith, q, k)))))))
    where
      over : (length (union kept beside) ≤ 12 → ⊥) → 12 < length (union kept beside)
      over k = by (leb (length (union kept beside)) 12) refl
        where
          by : (v : Bool) → leb (length (union kept beside)) 12 ≡ v → 12 < length (union kept beside)
          by true q = absurd (k (grind (arith, nat_tests)))
          by false q = grind (arith, nat_tests)
  both_fit (Some u) s t e f v h =
      let whole : u ≡ union kept beside = h ∙ (λ i. union (e i) (f i)) in
      let n = v.0 refl in
      let q = ap length (λ i. union (e i) (f i)) in
      ap Some whole ∙ sym (ap (λ w. cond w (Some (union kept beside)) None) (le-leb (length (union kept beside)) 12 (omega (arith, n, q))))

-- ---- the link vertices after a flip
module _ (m : Flip) (s up labels : List ℕ) (e : labels ≡ union m.a m.b) (rising : is_increasing nat_cmp up ≡ true) where
  abbrev kept_up : List ℕ
  kept_up = filter (λ x. not (has m.a x || has m.b x)) up

  abbrev new_of : List ℕ → List ℕ
  new_of l = filter (λ x. not (has s x) && not (is_within m.a (union s (x ∷ [])))) l

  kept_rises : is_increasing nat_cmp kept_up ≡ true
  kept_rises = is_increasing-filter nat_cmp (λ x. not (has m.a x || has m.b x)) up rising

  new_rises : is_increasing nat_cmp (new_of (union m.a m.b)) ≡ true
  new_rises = is_increasing-filter nat_cmp (λ x. not (has s x) && not (is_within m.a (union s (x ∷ [])))) (union m.a m.b) (is_increasing-union m.a m.b)

  pub kept_long : fitting kept_up ≡ None → None ≡ fitting (turned m s up)
  kept_long h = long_left kept_up (new_of (union m.a m.b)) kept_rises new_rises h

  pub new_long : fitting (new_of labels) ≡ None → None ≡ fitting (turned m s up)
  new_long h = long_right kept_up (new_of (union m.a m.b)) kept_rises new_rises (ap (λ l. fitting (new_of l)) (sym e) ∙ h)

  pub both_short : (r : Option (List ℕ)) (t u : List ℕ) → Some t ≡ fitting kept_up → Some u ≡ fitting (new_of labels) → IsSome r ↔ (length (union t u) ≤ 12) → IfSome r (λ v. v ≡ union t u) → r ≡ fitting (turned m s up)
  both_short r t u f g v w = both_fit kept_up (new_of (union m.a m.b)) kept_rises new_rises r t u (fits kept_up t f).0 ((fits (new_of labels) u g).0 ∙ ap new_of e) v w
