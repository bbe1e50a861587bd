-- Sums of integers t 0, .., t (n-1).
use Rattle.std.proofs.Common.{◌≡◌, ℕ, zero, suc, ◌+◌, ◌-◌, ◌*◌, ◌<◌, ◌≤◌, List, [], ◌∷◌, ℤ, pos, ◌+ℤ◌, ◌-ℤ◌, neg_ℤ, map, length, get_or, add-one, ◌∙◌, ap, subst, sym, refl, arith}
use Rattle.std.specs.List.{range_with_len}
use Rattle.std.proofs.lemmas.Int.{ints}
use Rattle.simplex.specs.Binomials.{choose}
use Rattle.simplex.proofs.Binomials.{choose_above, choose_all}
use Rattle.face_vectors.specs.Vectors.{alternating, count_of_size, h_of, h_term, h_vector_of, signed, sum_ℤ}
use Rattle.face_vectors.proofs.VectorLaws.{sum_more}
use Rattle.face_vectors.proofs.SignLaws.{signed-add, signed-signed, signed-split, signed-zero}

abbrev pub total : (ℕ → ℤ) → ℕ → ℤ
total t zero = pos 0
total t (suc n) = total t n +ℤ t n

pub total_is : (t : ℕ → ℤ) (n : ℕ) → sum_ℤ (map t (range_with_len 0 n)) ≡ total t n
total_is t zero = refl
total_is t (suc n) = ap (λ m. sum_ℤ (map t (range_with_len 0 m))) (sym (add-one n)) ∙ sum_more t n ∙ ap (λ z. z +ℤ t n) (total_is t n)

pub total_same : (s t : ℕ → ℤ) (n : ℕ) → ((i : ℕ) → i < n → s i ≡ t i) → total s n ≡ total t n
total_same s t zero h = refl
total_same s t (suc n) h = ap (λ z. z +ℤ s n) (total_same s t n (λ i l. h i (omega (arith, l)))) ∙ ap (λ z. total t n +ℤ z) (h n (omega arith))

pub total_add : (s t : ℕ → ℤ) (n : ℕ) → total (λ i. s i +ℤ t i) n ≡ total s n +ℤ total t n
total_add s t zero = refl
total_add s t (suc n) = omega (arith, ints, total_add s t n)

pub total_neg : (t : ℕ → ℤ) (n : ℕ) → total (λ i. neg_ℤ (t i)) n ≡ neg_ℤ (total t n)
total_neg t zero = refl
total_neg t (suc n) = omega (arith, ints, total_neg t n)

pub total_signed : (k : ℕ) (t : ℕ → ℤ) (n : ℕ) → total (λ i. signed k (t i)) n ≡ signed k (total t n)
total_signed k t zero = sym (signed-zero k)
total_signed k t (suc n) = ap (λ z. z +ℤ signed k (t n)) (total_signed k t n) ∙ sym (signed-add k (total t n) (t n))

pub total_front : (t : ℕ → ℤ) (n : ℕ) → total t (suc n) ≡ t 0 +ℤ total (λ i. t (suc i)) n
total_front t zero = omega (arith, ints)
total_front t (suc n) = omega (arith, ints, total_front t n)

pub total_zero : (t : ℕ → ℤ) (n : ℕ) → ((i : ℕ) → i < n → t i ≡ pos 0) → total t n ≡ pos 0
total_zero t zero h = refl
total_zero t (suc n) h = omega (arith, ints, total_zero t n (λ i l. h i (omega (arith, l))), h n (omega arith))

-- ---- the Euler characteristic
pub alternating_is : (fs : List ℕ) → total (λ j. signed j (pos (get_or fs j 0))) (length fs) ≡ alternating fs
alternating_is [] = refl
alternating_is (x ∷ fs) =
    let front = total_front (λ j. signed j (pos (get_or (x ∷ fs) j 0))) (length fs) in
    let turn = total_neg (λ j. signed j (pos (get_or fs j 0))) (length fs) in
    omega (arith, ints, front, turn, alternating_is fs)

-- the sum of the numbers (-1)^i f_(i-1)
reduced : (fs : List ℕ) → total (λ i. signed i (pos (count_of_size fs i))) (suc (length fs)) ≡ pos 1 -ℤ alternating fs
reduced fs =
    let front = total_front (λ i. signed i (pos (count_of_size fs i))) (length fs) in
    let turn = total_neg (λ j. signed j (pos (get_or fs j 0))) (length fs) in
    omega (arith, ints, front, turn, alternating_is fs)

last_term : (fs : List ℕ) (i : ℕ) → i < suc (length fs) → h_term fs (length fs) i ≡ signed (length fs) (signed i (pos (count_of_size fs i)))
last_term fs i l =
    let one : choose (length fs - i) (length fs - i) * count_of_size fs i ≡ count_of_size fs i = ap (λ n. n * count_of_size fs i) (choose_all (length fs - i)) ∙ omega arith in
    let whole : length fs - i + i ≡ length fs = omega arith in
    ap (λ n. signed (length fs - i) (pos n)) one ∙ sym (signed-split (length fs - i) i (pos (count_of_size fs i))) ∙ ap (λ n. signed n (signed i (pos (count_of_size fs i)))) whole

last_of_h : (fs : List ℕ) → h_of fs (length fs) ≡ signed (length fs) (pos 1 -ℤ alternating fs)
last_of_h fs =
    ap (λ n. sum_ℤ (map (h_term fs (length fs)) (range_with_len 0 n))) (add-one (length fs))
    ∙ total_is (h_term fs (length fs)) (suc (length fs))
    ∙ total_same (h_term fs (length fs)) (λ i. signed (length fs) (signed i (pos (count_of_size fs i)))) (suc (length fs)) (last_term fs)
    ∙ total_signed (length fs) (λ i. signed i (pos (count_of_size fs i))) (suc (length fs))
    ∙ ap (signed (length fs)) (reduced fs)

pub euler_by_h : (fs : List ℕ) → alternating fs ≡ pos 1 -ℤ signed (length fs) (h_of fs (length fs))
euler_by_h fs =
    let twice = ap (signed (length fs)) (last_of_h fs) ∙ signed-signed (length fs) (pos 1 -ℤ alternating fs) in
    omega (arith, ints, twice)

-- ---- the sum of the h-vector
-- the terms of h_0 + .. + h_k
partial : List ℕ → ℕ → ℕ → ℤ
partial fs k i = signed (k - i) (pos (choose (length fs - 1 - i) (k - i) * count_of_size fs i))

pascal_terms : (m n c : ℕ) → signed m (pos (choose n m * c)) +ℤ signed (suc m) (pos (choose (suc n) (suc m) * c)) ≡ signed (suc m) (pos (choose n (suc m) * c))
pascal_terms m n c =
    let e : (choose n m + choose n (suc m)) * c ≡ choose n m * c + choose n (suc m) * c = omega arith in
    let split = ap (λ v. signed m (pos v)) e ∙ signed-add m (pos (choose n m * c)) (pos (choose n (suc m) * c)) in
    omega (arith, ints, split)

step_term : (fs : List ℕ) (k i : ℕ) → suc k ≤ length fs → i < suc k → partial fs k i +ℤ h_term fs (suc k) i ≡ partial fs (suc k) i
unfolding partial
step_term fs k i p q =
    let m = k - i in
    let n = length fs - 1 - i in
    let c = count_of_size fs i in
    let chosen : suc m ≡ suc k - i = omega arith in
    let things : suc n ≡ length fs - i = omega arith in
    subst (λ x. signed m (pos (choose n m * c)) +ℤ signed x (pos (choose (length fs - i) x * c)) ≡ signed x (pos (choose n x * c))) chosen
    (subst (λ y. signed m (pos (choose n m * c)) +ℤ signed (suc m) (pos (choose y (suc m) * c)) ≡ signed (suc m) (pos (choose n (suc m) * c))) things (pascal_terms m n c))

-- the term of the greatest faces, whatever it is chosen from
top_term : (n k c : ℕ) → signed (k - k) (pos (choose n (k - k) * c)) ≡ pos c
top_term n k c =
    let none : 0 ≡ k - k = omega arith in
    let once : 1 * c ≡ c = omega arith in
    subst (λ x. signed x (pos (choose n x * c)) ≡ pos c) none (ap pos once)

h_total : (fs : List ℕ) (k : ℕ) → k ≤ length fs → total (h_of fs) (suc k) ≡ total (partial fs k) (suc k)
unfolding partial
h_total fs zero p = refl
h_total fs (suc k) p =
    let before = h_total fs k (omega arith) in
    let whole = ap (λ n. sum_ℤ (map (h_term fs (suc k)) (range_with_len 0 n))) (add-one (suc k)) ∙ total_is (h_term fs (suc k)) (suc (suc k)) in
    let both = sym (total_add (partial fs k) (h_term fs (suc k)) (suc k)) ∙ total_same (λ i. partial fs k i +ℤ h_term fs (suc k) i) (partial fs (suc k)) (suc k) (λ i l. step_term fs k i p l) in
    let top = top_term (length fs - suc k) (suc k) (count_of_size fs (suc k)) ∙ sym (top_term (length fs - 1 - suc k) (suc k) (count_of_size fs (suc k))) in
    omega (arith, ints, before, whole, both, top)

gone_term : (fs : List ℕ) (i : ℕ) → i < length fs → partial fs (length fs) i ≡ pos 0
unfolding partial
gone_term fs i l =
    let none = choose_above (length fs - 1 - i) (length fs - i) (omega arith) in
    let zero_times : 0 * count_of_size fs i ≡ 0 = omega arith in
    ap (λ n. signed (length fs - i) (pos (n * count_of_size fs i))) none ∙ ap (λ n. signed (length fs - i) (pos n)) zero_times ∙ signed-zero (length fs - i)

pub h_sum : (fs : List ℕ) → sum_ℤ (h_vector_of fs) ≡ pos (count_of_size fs (length fs))
unfolding partial
h_sum fs =
    let d = length fs in
    let whole = ap (λ n. sum_ℤ (map (h_of fs) (range_with_len 0 n))) (add-one d) ∙ total_is (h_of fs) (suc d) ∙ h_total fs d (omega arith) in
    let gone = total_zero (partial fs d) d (gone_term fs) in
    let top = top_term (d - 1 - d) d (count_of_size fs d) in
    omega (arith, ints, whole, gone, top)
