-- Which flip a walk takes.
use Rattle.std.proofs.Common.{◌≡◌, ℕ, zero, suc, ◌+◌, ◌-◌, ◌*◌, ◌^◌, ◌%◌, ◌≤◌, ◌<◌, Bool, true, false, cond, List, [], ◌∷◌, ◌++◌, map, length, refl, sym, ap, ◌∙◌, arith, Option, Some, None, ltb, add-one, get_or, length-append}
use Rattle.std.specs.Prelude.{slice_get, option_map}
use Rattle.std.specs.List.{filter, flat_map, range_with_len}
use Rattle.std.proofs.lemmas.Bool.Decides.{nat_tests}
use Rattle.std.proofs.lemmas.Option.{slice_get-get_or}
use Rattle.simplex.specs.declared.flip.Flip.{Flip}
use Rattle.facet_set.specs.Numbers.{size}
use Rattle.facet_set.specs.Flips.{options}
use Rattle.annealer.specs.Walk.{below, is_shrinking, is_mixing, first_filled, best_options, mixed_options, other_options, chosen, pick}

module _ {X : Type 0} where
  flat_only : (p : ℕ → Bool) (f : ℕ → List X) (is : List ℕ) → flat_map f (filter p is) ≡ flat_map (λ i. cond (p i) (f i) []) is
  flat_only p f [] = refl
  flat_only p f (i ∷ is) =
      elim (p i) as (λ v. flat_map f (cond v (i ∷ filter p is) (filter p is)) ≡ cond v (f i) [] ++ flat_map (λ i. cond (p i) (f i) []) is) [
        | true ↦ ap (λ r. f i ++ r) (flat_only p f is)
        | false ↦ flat_only p f is
      ]

  first_same : (xs : List X) (ls ms : List (List X)) → first_filled ls ≡ first_filled ms → first_filled (xs ∷ ls) ≡ first_filled (xs ∷ ms)
  first_same [] ls ms e = e
  first_same (x ∷ xs) ls ms e = refl

  first_only : (p : ℕ → Bool) (f : ℕ → List X) (is : List ℕ) → first_filled (map f (filter p is)) ≡ first_filled (map (λ i. cond (p i) (f i) []) is)
  first_only p f [] = refl
  first_only p f (i ∷ is) =
      elim (p i) as (λ v. first_filled (map f (cond v (i ∷ filter p is) (filter p is))) ≡ first_filled (cond v (f i) [] ∷ map (λ i. cond (p i) (f i) []) is)) [
        | true ↦ first_same (f i) (map f (filter p is)) (map (λ i. cond (p i) (f i) []) is) (first_only p f is)
        | false ↦ first_only p f is
      ]

  slice_left : (xs ys : List X) (k : ℕ) → k < length xs → slice_get (xs ++ ys) k ≡ slice_get xs k
  slice_left [] ys k h = absurd (omega arith)
  slice_left (x ∷ xs) ys zero h = refl
  slice_left (x ∷ xs) ys (suc k) h = slice_left xs ys k (omega arith)

  slice_right : (xs ys : List X) (k : ℕ) → slice_get (xs ++ ys) (length xs + k) ≡ slice_get ys k
  slice_right [] ys k = ap (slice_get ys) none
    where
      none : length {A = X} [] + k ≡ k
      none = omega arith
  slice_right (x ∷ xs) ys k = ap (slice_get (x ∷ xs ++ ys)) more ∙ slice_right xs ys k
    where
      more : length (x ∷ xs) + k ≡ suc (length xs + k)
      more = omega arith

-- where there is a flip, one is chosen
chosen_is : (m : Flip) (ms : List Flip) (w : ℕ) → chosen (m ∷ ms) w ≡ Some (get_or (m ∷ ms) (w % length (m ∷ ms)) m)
chosen_is m ms w = slice_get-get_or (m ∷ ms) (w % length (m ∷ ms)) m (below_count (length ms))
  where
    below_count : (n : ℕ) → w % suc n < suc n
    below_count n = omega arith

pub chosen_none : (ms : List Flip) (w : ℕ) → chosen ms w ≡ None → ms ≡ []
chosen_none [] w e = refl
chosen_none (m ∷ ms) w e = let f : Some (get_or (m ∷ ms) (w % length (m ∷ ms)) m) ≡ None = sym (chosen_is m ms w) ∙ e in cc

pub chosen_some : (ms : List Flip) (w : ℕ) → (ms ≡ [] → ⊥) → (m : Flip) × (chosen ms w ≡ Some m)
chosen_some [] w h = absurd (h refl)
chosen_some (m ∷ ms) w h = (get_or (m ∷ ms) (w % length (m ∷ ms)) m, chosen_is m ms w)

-- ---- the classes that make the complex smaller, the greatest first

abbrev pub shrunk : List (List ℕ) → ℕ → ℕ → List Flip
shrunk c n i = cond (is_shrinking n i) (options c i) []

abbrev pub best_below : List (List ℕ) → ℕ → ℕ → List Flip
best_below c n i = first_filled (map (shrunk c n) (below i))

pub best_init : (c : List (List ℕ)) (n w : ℕ) → n ≡ size c → chosen (best_below c n n) w ≡ chosen (best_options c) w
best_init c n w e = ap (λ k. chosen (best_below c k k) w) e ∙ ap (λ l. chosen l w) (sym (first_only (is_shrinking (size c)) (options c) (below (size c))))

pub best_next : (c : List (List ℕ)) (n i w : ℕ) (whole : Option Flip) → chosen (shrunk c n i) w ≡ None → chosen (best_below c n (i + 1)) w ≡ whole → chosen (best_below c n i) w ≡ whole
best_next c n i w whole h e =
    let f : shrunk c n i ≡ [] = chosen_none (shrunk c n i) w h in
    ap (λ l. chosen (first_filled (l ∷ map (shrunk c n) (below i))) w) (sym f) ∙ ap (λ k. chosen (best_below c n k) w) (sym (add-one i)) ∙ e

pub best_found : (c : List (List ℕ)) (n i w : ℕ) (m : Flip) (whole : Option Flip) → chosen (shrunk c n i) w ≡ Some m → chosen (best_below c n (i + 1)) w ≡ whole → Some m ≡ whole
best_found c n i w m whole h e = sym (found (shrunk c n i) (map (shrunk c n) (below i)) h) ∙ ap (λ k. chosen (best_below c n k) w) (sym (add-one i)) ∙ e
  where
    found : (xs : List Flip) (ls : List (List Flip)) → chosen xs w ≡ Some m → chosen (first_filled (xs ∷ ls)) w ≡ Some m
    found [] ls h = cc
    found (x ∷ xs) ls h = h

pub best_done : (c : List (List ℕ)) (n w : ℕ) (whole : Option Flip) → chosen (best_below c n 0) w ≡ whole → None ≡ whole
best_done c n w whole e = e

-- ---- the other classes, in increasing order

abbrev pub mixed : List (List ℕ) → ℕ → ℕ → List Flip
mixed c n i = cond (is_mixing n i) (options c i) []

abbrev pub mixed_from : List (List ℕ) → ℕ → ℕ → List Flip
mixed_from c n i = flat_map (mixed c n) (range_with_len i (n - i))

pub mixed_init : (c : List (List ℕ)) (n : ℕ) → n ≡ size c → mixed_from c n 0 ≡ mixed_options c
mixed_init c n e = ap (λ k. flat_map (mixed c n) (range_with_len 0 k)) whole ∙ ap (λ k. flat_map (mixed c k) (range_with_len 0 k)) e ∙ sym (flat_only (is_mixing (size c)) (options c) (range_with_len 0 (size c)))
  where
    whole : n - 0 ≡ n
    whole = omega arith

mixed_next : (c : List (List ℕ)) (n i : ℕ) → i < n → mixed_from c n i ≡ mixed c n i ++ mixed_from c n (i + 1)
mixed_next c n i h = ap (λ k. flat_map (mixed c n) (range_with_len i k)) step
  where
    step : n - i ≡ suc (n - (i + 1))
    step = omega arith

mixed_end : (c : List (List ℕ)) (n i : ℕ) → n ≤ i → mixed_from c n i ≡ []
mixed_end c n i h = ap (λ k. flat_map (mixed c n) (range_with_len i k)) none
  where
    none : n - i ≡ 0
    none = omega arith

pub count_init : (c : List (List ℕ)) (n : ℕ) → n ≡ size c → 0 + length (mixed_from c n 0) ≡ length (mixed_options c)
count_init c n e = let f = ap length (mixed_init c n e) in omega (arith, f)

pub count_next : (c : List (List ℕ)) (n i count k whole : ℕ) → i < n → k ≡ length (mixed c n i) → count + length (mixed_from c n i) ≡ whole → (count + k) + length (mixed_from c n (i + 1)) ≡ whole
count_next c n i count k whole h e f =
    let g : length (mixed_from c n i) ≡ length (mixed c n i) + length (mixed_from c n (i + 1)) = ap length (mixed_next c n i h) ∙ length-append (mixed c n i) (mixed_from c n (i + 1)) in
    omega (arith, e, f, g)

pub count_few : (i count k : ℕ) → count ≤ i * 2 ^ 64 → k < 2 ^ 64 → count + k ≤ (i + 1) * 2 ^ 64
count_few i count k h l = omega arith

pub count_done : (c : List (List ℕ)) (n i count whole : ℕ) → n ≤ i → count + length (mixed_from c n i) ≡ whole → count ≡ whole
count_done c n i count whole h e = let f : length (mixed_from c n i) ≡ 0 = ap length (mixed_end c n i h) in omega (arith, e, f)

pub at_init : (c : List (List ℕ)) (n k : ℕ) → n ≡ size c → slice_get (mixed_from c n 0) k ≡ slice_get (mixed_options c) k
at_init c n k e = ap (λ l. slice_get l k) (mixed_init c n e)

pub at_found : (c : List (List ℕ)) (n i k : ℕ) (o whole : Option Flip) → i < n → k < length (mixed c n i) → o ≡ slice_get (mixed c n i) k → slice_get (mixed_from c n i) k ≡ whole → o ≡ whole
at_found c n i k o whole h l e f = e ∙ sym (slice_left (mixed c n i) (mixed_from c n (i + 1)) k l) ∙ ap (λ xs. slice_get xs k) (sym (mixed_next c n i h)) ∙ f

pub at_next : (c : List (List ℕ)) (n i k count : ℕ) (whole : Option Flip) → i < n → count ≡ length (mixed c n i) → count ≤ k → slice_get (mixed_from c n i) k ≡ whole → slice_get (mixed_from c n (i + 1)) (k - count) ≡ whole
at_next c n i k count whole h e l f =
    sym (slice_right (mixed c n i) (mixed_from c n (i + 1)) (k - count)) ∙ ap (slice_get (mixed c n i ++ mixed_from c n (i + 1))) place ∙ ap (λ xs. slice_get xs k) (sym (mixed_next c n i h)) ∙ f
  where
    place : length (mixed c n i) + (k - count) ≡ k
    place = omega arith

pub at_done : (c : List (List ℕ)) (n i k : ℕ) (whole : Option Flip) → n ≤ i → slice_get (mixed_from c n i) k ≡ whole → None ≡ whole
at_done c n i k whole h f = ap (λ xs. slice_get xs k) (sym (mixed_end c n i h)) ∙ f

-- ---- all other options

pub other_none : (c : List (List ℕ)) (w : ℕ) → length (mixed_options c) ≡ 0 → chosen (other_options c) w ≡ chosen (options c 0) w
other_none c w e = ap (λ l. chosen (first_filled (l ∷ options c 0 ∷ [])) w) (empty (mixed_options c) e) ∙ ap (λ l. chosen l w) (alone (options c 0))
  where
    empty : (xs : List Flip) → length xs ≡ 0 → xs ≡ []
    empty [] e = refl
    empty (x ∷ xs) e = absurd (omega arith)

    alone : (xs : List Flip) → first_filled (xs ∷ []) ≡ xs
    alone [] = refl
    alone (x ∷ xs) = refl

pub other_some : (c : List (List ℕ)) (w count : ℕ) → count ≡ length (mixed_options c) → (count ≡ 0 → ⊥) → slice_get (mixed_options c) (w % count) ≡ chosen (other_options c) w
other_some c w count e h = by (mixed_options c) e
  where
    by : (xs : List Flip) → count ≡ length xs → slice_get xs (w % count) ≡ chosen (first_filled (xs ∷ options c 0 ∷ [])) w
    by [] f = absurd (h f)
    by (x ∷ xs) f = ap (λ n. slice_get (x ∷ xs) (w % n)) f

-- ---- the pick

pub pick_hot : (c : List (List ℕ)) (heat w : ℕ) → 0 < heat → pick c heat w ≡ option_map (λ m. (m, heat - 1)) (chosen (other_options c) w)
pick_hot c zero w h = absurd (omega arith)
pick_hot c (suc heat) w h = ap (λ k. option_map {U = Flip × ℕ} (λ m. (m, k)) (chosen (other_options c) w)) cooled
  where
    cooled : heat ≡ suc heat - 1
    cooled = omega arith

pub pick_best : (c : List (List ℕ)) (w : ℕ) (m : Flip) → chosen (best_options c) w ≡ Some m → pick c 0 w ≡ Some (m, 0)
pick_best c w m e = by (best_options c) e
  where
    some : (n : ℕ) → ltb 0 (suc n) ≡ true
    some n = grind (arith, nat_tests)

    by : (xs : List Flip) → chosen xs w ≡ Some m → option_map {U = Flip × ℕ} (λ m. (m, (cond {A = List Flip × ℕ} (ltb 0 (length xs)) (xs, 0) (other_options c, 5 * size c - 1)).1)) (chosen (cond {A = List Flip × ℕ} (ltb 0 (length xs)) (xs, 0) (other_options c, 5 * size c - 1)).0 w) ≡ Some (m, 0)
    by [] f = cc
    by (x ∷ xs) f =
        ap (λ v. option_map {U = Flip × ℕ} (λ m. (m, (cond {A = List Flip × ℕ} v (x ∷ xs, 0) (other_options c, 5 * size c - 1)).1)) (chosen (cond {A = List Flip × ℕ} v (x ∷ xs, 0) (other_options c, 5 * size c - 1)).0 w)) (some (length xs))
        ∙ ap (option_map {U = Flip × ℕ} (λ m. (m, 0))) f

pub pick_cold : (c : List (List ℕ)) (w : ℕ) → chosen (best_options c) w ≡ None → pick c 0 w ≡ option_map (λ m. (m, 5 * size c - 1)) (chosen (other_options c) w)
pick_cold c w e =
    ap (λ xs. option_map {U = Flip × ℕ} (λ m. (m, (cond {A = List Flip × ℕ} (ltb 0 (length xs)) (xs, 0) (other_options c, 5 * size c - 1)).1)) (chosen (cond {A = List Flip × ℕ} (ltb 0 (length xs)) (xs, 0) (other_options c, 5 * size c - 1)).0 w)) (chosen_none (best_options c) w e)
