-- Rows of counts, when one of them rises.
use Rattle.std.proofs.Common.{◌≡◌, ℕ, zero, suc, ◌+◌, ◌-◌, ◌^◌, ◌<◌, ◌≤◌, Bool, true, false, cond, List, [], ◌∷◌, ◌++◌, set, get_or, map, length, take, replicate, ℤ, pos, ◌+ℤ◌, ◌≤ℤ◌, ◌<ℤ◌, refl, sym, ap, ◌∙◌, arith}
use Rattle.std.specs.Prelude.{◌==◌}
use Rattle.std.specs.List.{filter, range_with_len}
use Rattle.std.proofs.lemmas.Int.{ints}
use Rattle.std.proofs.lemmas.Bool.Decides.{nat_tests}
use Rattle.std.proofs.lemmas.List.FromFn.{get_or-map-range_with_len}
use mir.Val.{SFits, of_z, to_z}
use mir.Syntax.{w64}
use Rattle.std.proofs.lemmas.Int.{to_z-of_z}

-- what the machine adds
pub one_more : (x : ℤ) → pos 0 ≤ℤ x → x <ℤ pos (2 ^ 63 - 1) → to_z w64 (of_z w64 (to_z w64 (of_z w64 x) +ℤ pos 1)) ≡ x +ℤ pos 1
one_more x p q =
    let fits : SFits w64 x = omega (arith, ints) in
    let more : SFits w64 (x +ℤ pos 1) = omega (arith, ints) in
    ap (λ y. to_z w64 (of_z w64 (y +ℤ pos 1))) (to_z-of_z w64 x fits) ∙ to_z-of_z w64 (x +ℤ pos 1) more

set_in : {X : Type 0} (n k : ℕ) (xs : List X) (x : X) → k < n → take n (set xs k x) ≡ set (take n xs) k x
set_in zero k xs x h = absurd (omega arith)
set_in (suc n) k [] x h = refl
set_in (suc n) zero (y ∷ xs) x h = refl
set_in (suc n) (suc k) (y ∷ xs) x h = ap (λ ys. y ∷ ys) (set_in n k xs x (omega arith))

get_in : {X : Type 0} (n k : ℕ) (xs : List X) (d : X) → k < n → get_or (take n xs) k d ≡ get_or xs k d
get_in zero k xs d h = absurd (omega arith)
get_in (suc n) k [] d h = refl
get_in (suc n) zero (y ∷ xs) d h = refl
get_in (suc n) (suc k) (y ∷ xs) d h = get_in n k xs d (omega arith)

pub raised : (at : List ℤ) (len k : ℕ) → k < len → pos 0 ≤ℤ get_or (take len at) k (pos 0) → get_or (take len at) k (pos 0) <ℤ pos (2 ^ 63 - 1)
    → take len (set at k (to_z w64 (of_z w64 (to_z w64 (of_z w64 (get_or at k (pos 0))) +ℤ pos 1)))) ≡ set (take len at) k (get_or (take len at) k (pos 0) +ℤ pos 1)
raised at len k h p q =
    let same = get_in len k at (pos 0) h in
    ap (λ x. take len (set at k (to_z w64 (of_z w64 (to_z w64 (of_z w64 x) +ℤ pos 1))))) (sym same)
    ∙ ap (λ x. take len (set at k x)) (one_more (get_or (take len at) k (pos 0)) p q)
    ∙ set_in len k at (get_or (take len at) k (pos 0) +ℤ pos 1) h

-- ---- rows that count
set_range : {X : Type 0} (t u : ℕ → X) (a n k : ℕ) → k < n → ((j : ℕ) → (j ≡ a + k → ⊥) → t j ≡ u j) → set (map t (range_with_len a n)) k (u (a + k)) ≡ map u (range_with_len a n)
set_range t u a zero k h f = absurd (omega arith)
set_range t u a (suc n) zero h f =
    let here : a + 0 ≡ a = omega arith in
    ap (λ j. u j ∷ map t (range_with_len (a + 1) n)) here ∙ ap (λ xs. u a ∷ xs) (rest (a + 1) n (omega arith))
  where
    rest : (b m : ℕ) → a < b → map t (range_with_len b m) ≡ map u (range_with_len b m)
    rest b zero l = refl
    rest b (suc m) l = ap (λ x. x ∷ map t (range_with_len (b + 1) m)) (f b (λ e. absurd (omega arith))) ∙ ap (λ xs. u b ∷ xs) (rest (b + 1) m (omega arith))
set_range t u a (suc n) (suc k) h f =
    let there : a + suc k ≡ a + 1 + k = omega arith in
    ap (λ x. x ∷ set (map t (range_with_len (a + 1) n)) k (u (a + suc k))) (f a (λ e. absurd (omega arith)))
    ∙ ap (λ j. u a ∷ set (map t (range_with_len (a + 1) n)) k (u j)) there
    ∙ ap (λ xs. u a ∷ xs) (set_range t u (a + 1) n k (omega arith) (λ j g. f j (λ e. g (omega arith))))

-- a count of those with each number of labels, once there is one more
abbrev pub number_with : List (List ℕ × List ℕ) → ℕ → ℕ
number_with l k = length (filter (λ (x : List ℕ × List ℕ). length x.0 == k) l)

pub number_more : (l : List (List ℕ × List ℕ)) (x : List ℕ × List ℕ) (k : ℕ) → number_with (l ++ x ∷ []) k ≡ number_with l k + cond (length x.0 == k) 1 0
number_more [] x k = by (length x.0 == k)
  where
    by : (v : Bool) → length (cond v (x ∷ []) []) ≡ 0 + cond v 1 0
    by true = refl
    by false = refl
number_more (y ∷ l) x k = by (length y.0 == k) (number_more l x k)
  where
    by : (v : Bool) → number_with (l ++ x ∷ []) k ≡ number_with l k + cond (length x.0 == k) 1 0
        → length (cond v (y ∷ filter (λ (z : List ℕ × List ℕ). length z.0 == k) (l ++ x ∷ [])) (filter (λ (z : List ℕ × List ℕ). length z.0 == k) (l ++ x ∷ [])))
        ≡ length (cond v (y ∷ filter (λ (z : List ℕ × List ℕ). length z.0 == k) l) (filter (λ (z : List ℕ × List ℕ). length z.0 == k) l)) + cond (length x.0 == k) 1 0
    by true e = omega (arith, e)
    by false e = e

pub number_most : (l : List (List ℕ × List ℕ)) (k : ℕ) → number_with l k ≤ length l
number_most [] k = omega arith
number_most (y ∷ l) k = by (length y.0 == k) (number_most l k)
  where
    by : (v : Bool) → number_with l k ≤ length l
        → length (cond v (y ∷ filter (λ (z : List ℕ × List ℕ). length z.0 == k) l) (filter (λ (z : List ℕ × List ℕ). length z.0 == k) l)) ≤ suc (length l)
    by true e = omega (arith, e)
    by false e = omega (arith, e)

abbrev pub row_of : List (List ℕ × List ℕ) → ℕ → List ℤ
row_of l n = map (λ k. pos (number_with l k)) (range_with_len 0 n)

pub row_at : (l : List (List ℕ × List ℕ)) (n k : ℕ) → k < n → get_or (row_of l n) k (pos 0) ≡ pos (number_with l k)
row_at l n k h = get_or-map-range_with_len (λ j. pos (number_with l j)) 0 n k k (pos 0) h (omega arith)

pub row_more : (l : List (List ℕ × List ℕ)) (x : List ℕ × List ℕ) (n : ℕ) → length x.0 < n
    → set (row_of l n) (length x.0) (get_or (row_of l n) (length x.0) (pos 0) +ℤ pos 1) ≡ row_of (l ++ x ∷ []) n
row_more l x n h =
    ap (λ z. set (row_of l n) (length x.0) z) up
    ∙ set_range (λ k. pos (number_with l k)) (λ k. pos (number_with (l ++ x ∷ []) k)) 0 n (length x.0) h (λ j f. others j (λ e. f (omega arith)))
  where
    hit : (length x.0 == length x.0) ≡ true
    hit = grind (arith, nat_tests)

    up : get_or (row_of l n) (length x.0) (pos 0) +ℤ pos 1 ≡ pos (number_with (l ++ x ∷ []) (0 + length x.0))
    up =
        let here : 0 + length x.0 ≡ length x.0 = omega arith in
        let more = number_more l x (length x.0) in
        let one = ap {B = ℕ} (λ v. cond v 1 0) hit in
        let next : number_with (l ++ x ∷ []) (length x.0) ≡ number_with l (length x.0) + 1 = omega (arith, more, one) in
        ap (λ z. z +ℤ pos 1) (row_at l n (length x.0) h) ∙ sym (ap (λ k. pos (number_with (l ++ x ∷ []) k)) here ∙ ap pos next)

    others : (j : ℕ) → (j ≡ length x.0 → ⊥) → pos (number_with l j) ≡ pos (number_with (l ++ x ∷ []) j)
    others j f =
        let miss : (length x.0 == j) ≡ false = apart (length x.0) j f in
        let none = ap {B = ℕ} (λ v. cond v 1 0) miss in
        let more = number_more l x j in
        let same : number_with l j ≡ number_with (l ++ x ∷ []) j = omega (arith, more, none) in
        ap pos same
      where
        apart : (a j : ℕ) → (j ≡ a → ⊥) → (a == j) ≡ false
        apart a j f = grind (arith, nat_tests)

pub row_empty : (n : ℕ) → replicate n (pos 0) ≡ row_of [] n
row_empty n = from 0 n
  where
    from : (a n : ℕ) → replicate n (pos 0) ≡ map (λ k. pos (number_with [] k)) (range_with_len a n)
    from a zero = refl
    from a (suc n) = ap (λ xs. pos 0 ∷ xs) (from (a + 1) n)
