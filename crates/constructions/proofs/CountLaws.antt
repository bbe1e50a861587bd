-- How many facets a cyclic polytope has.
use Rattle.std.proofs.Common.{◌≡◌, ℕ, zero, suc, ◌+◌, ◌-◌, ◌*◌, ◌/◌, ◌%◌, ◌^◌, ◌<◌, ◌≤◌, Bool, true, false, List, [], ◌∷◌, ◌++◌, map, length, refl, sym, ap, ◌∙◌, arith, append-nil, length-append, pow-suc, mul-le-mul, mul-div_cancel}
use Rattle.std.proofs.Math.Nat.{pow-le-pow_right}
use Rattle.std.proofs.lemmas.List.{length-map}
use Rattle.simplex.specs.Binomials.{choose}
use Rattle.simplex.proofs.Binomials.{choose_above}
use Rattle.constructions.specs.Runs.{runs, starts}

-- ---- the number of subsets
pub choose_step : (n k d : ℕ) → n ≡ k + d → choose n (suc k) * suc k ≡ choose n k * d
choose_step zero zero d e = omega arith
choose_step zero (suc k) d e = absurd (omega arith)
choose_step (suc n) zero d e =
    let r = choose_step n zero n (omega arith) in
    sums (choose n (suc zero)) n d r (omega arith)
  where
    sums : (x n d : ℕ) → x * suc zero ≡ 1 * n → d ≡ suc n → (1 + x) * suc zero ≡ 1 * d
    sums x n d r e = omega arith
choose_step (suc n) (suc k) zero e =
    let x = choose_above n (suc k) (omega arith) in
    let y = choose_above n (suc (suc k)) (omega arith) in
    sums (choose n (suc k)) (choose n (suc (suc k))) (suc (suc k)) (choose n k + choose n (suc k)) x y
  where
    sums : (x y k z : ℕ) → x ≡ 0 → y ≡ 0 → (x + y) * k ≡ z * zero
    sums x y k z e f = ap (λ u. (u + y) * k) e ∙ ap (λ u. (0 + u) * k) f ∙ omega arith
choose_step (suc n) (suc k) (suc d) e =
    let p = choose_step n (suc k) d (omega arith) in
    let q = choose_step n k (suc d) (omega arith) in
    sums (choose n k) (choose n (suc k)) (choose n (suc (suc k))) k d p q
  where
    sums : (x y z k d : ℕ) → z * suc (suc k) ≡ y * d → y * suc k ≡ x * suc d → (y + z) * suc (suc k) ≡ (x + y) * suc d
    sums x y z k d p q = omega arith

pub choose_next : (n k count : ℕ) → k < n → count ≡ choose n k → count * (n - k) / (k + 1) ≡ choose n (k + 1)
choose_next n k count h e =
    let s = choose_step n k (n - k) (omega arith) in
    let f : count * (n - k) ≡ choose n (k + 1) * (k + 1) = ap (λ x. x * (n - k)) e ∙ sym s ∙ ap (λ j. choose n j * j) (sym (one_more k)) in
    ap (λ x. x / (k + 1)) f ∙ mul-div_cancel (choose n (k + 1)) (omega arith)
  where
    one_more : (k : ℕ) → k + 1 ≡ suc k
    one_more k = omega arith

pub choose_bound : (n k : ℕ) → k ≤ n → n ≤ 1000000 → choose n k ≤ 1000000 ^ k
choose_bound n zero h m = le_one n
  where
    le_one : (n : ℕ) → 1 ≤ 1000000 ^ 0
    le_one n = omega arith
choose_bound n (suc k) h m =
    let s = choose_step n k (n - k) (omega arith) in
    let r = choose_bound n k (omega arith) m in
    let t : choose n k * (n - k) ≤ 1000000 ^ k * 1000000 = mul-le-mul {n₂ = 1000000 ^ k} {m₂ = 1000000} r (omega arith) in
    let u : choose n (suc k) * 1 ≤ choose n (suc k) * suc k = mul-le-mul {n₂ = choose n (suc k)} {m₂ = suc k} (omega arith) (omega arith) in
    let w : 1000000 ^ suc k ≡ 1000000 ^ k * 1000000 = pow-suc 1000000 k in
    omega (arith, s, t, u, w)

pub choose_small : (n k : ℕ) → k ≤ n → n ≤ 1000000 → k ≤ 6 → choose n k ≤ 10 ^ 36
choose_small n k h m s =
    let r = choose_bound n k h m in
    let p : 1000000 ^ k ≤ 1000000 ^ 6 = pow-le-pow_right {n = 1000000} (omega arith) {i = k} {j = 6} s in
    omega (arith, r, p)

pub choose_fits : (n k count : ℕ) → k < n → n ≤ 1000000 → k < 6 → count ≡ choose n k → count * (n - k) < 2 ^ 128
choose_fits n k count h m s e =
    let r = choose_bound n k (omega arith) m in
    let p : 1000000 ^ k ≤ 1000000 ^ 5 = pow-le-pow_right {n = 1000000} (omega arith) {i = k} {j = 5} (omega arith) in
    let t : count * (n - k) ≤ 1000000 ^ 5 * 1000000 = mul-le-mul {n₂ = 1000000 ^ 5} {m₂ = 1000000} (omega arith) (omega arith) in
    omega (arith, t)

-- ---- lengths of lists of runs
pub runs_none : (a r : ℕ) → runs false a r zero ≡ [] ∷ []
runs_none a zero = refl
runs_none a (suc r) = runs_none (a + 1) r

pub runs_short : (odd : Bool) (a r k : ℕ) → r < k → runs odd a r k ≡ []
runs_short odd a r zero h = absurd (omega arith)
runs_short odd a zero (suc k) h = refl
runs_short true a (suc r) (suc k) h = ap (λ xs. map (λ s. a ∷ s) xs ++ []) (runs_short false (a + 1) r k (omega arith))
runs_short false a (suc r) (suc k) h =
    ap (λ xs. map (λ s. a ∷ s) xs ++ runs false (a + 1) r (suc k)) (runs_short true (a + 1) r k (omega arith)) ∙ runs_short false (a + 1) r (suc k) (omega arith)

pub runs_single : (a r : ℕ) → runs false a (suc r) 1 ≡ ((a + r) ∷ []) ∷ []
runs_single a zero = ap (λ x. (x ∷ []) ∷ []) (plus a)
  where
    plus : (a : ℕ) → a ≡ a + zero
    plus a = omega arith
runs_single a (suc r) = runs_single (a + 1) r ∙ ap (λ x. (x ∷ []) ∷ []) (plus a r)
  where
    plus : (a r : ℕ) → a + 1 + r ≡ a + suc r
    plus a r = omega arith

-- a pair, or none of the first number
pub runs_pair : (a r k : ℕ) → runs false a (suc (suc r)) (suc (suc k)) ≡ map (λ s. a ∷ (a + 1) ∷ s) (runs false (a + 1 + 1) r k) ++ runs false (a + 1) (suc r) (suc (suc k))
runs_pair a r k = ap (λ xs. xs ++ runs false (a + 1) (suc r) (suc (suc k))) (ap (map (λ s. a ∷ s)) (append-nil (map (λ s. (a + 1) ∷ s) (runs false (a + 1 + 1) r k))) ∙ twice (runs false (a + 1 + 1) r k))
  where
    twice : (xs : List (List ℕ)) → map (λ s. a ∷ s) (map (λ s. (a + 1) ∷ s) xs) ≡ map (λ s. a ∷ (a + 1) ∷ s) xs
    twice [] = refl
    twice (x ∷ xs) = ap (λ ys. (a ∷ (a + 1) ∷ x) ∷ ys) (twice xs)

length_pair : (a r k : ℕ) → length (runs false a (suc (suc r)) (suc (suc k))) ≡ length (runs false (a + 1 + 1) r k) + length (runs false (a + 1) (suc r) (suc (suc k)))
length_pair a r k =
    ap length (runs_pair a r k) ∙ length-append (map (λ s. a ∷ (a + 1) ∷ s) (runs false (a + 1 + 1) r k)) (runs false (a + 1) (suc r) (suc (suc k)))
    ∙ ap (λ n. n + length (runs false (a + 1) (suc r) (suc (suc k)))) (length-map (runs false (a + 1 + 1) r k) (λ s. a ∷ (a + 1) ∷ s))

even_count : (m j a r k : ℕ) → r ≡ m + j → k ≡ 2 * m → length (runs false a r k) ≡ choose j m
even_count zero j a r zero e f = ap length (runs_none a r)
even_count zero j a r (suc k) e f = absurd (omega arith)
even_count (suc m) zero a r k e f = ap length (runs_short false a r k (omega arith))
even_count (suc m) (suc j) a zero k e f = absurd (omega arith)
even_count (suc m) (suc j) a (suc zero) k e f = absurd (omega arith)
even_count (suc m) (suc j) a (suc (suc r)) zero e f = absurd (omega arith)
even_count (suc m) (suc j) a (suc (suc r)) (suc zero) e f = absurd (omega arith)
even_count (suc m) (suc j) a (suc (suc r)) (suc (suc k)) e f =
    length_pair a r k ∙ ap (λ n. n + length (runs false (a + 1) (suc r) (suc (suc k)))) (even_count m j (a + 1 + 1) r k (omega arith) (omega arith))
    ∙ ap (λ n. choose j m + n) (even_count (suc m) j (a + 1) (suc r) (suc (suc k)) (omega arith) (omega arith))

odd_count : (m j a r k : ℕ) → r ≡ m + 1 + j → k ≡ 2 * m + 1 → length (runs false a r k) ≡ choose j m
odd_count zero j a zero k e f = absurd (omega arith)
odd_count zero j a (suc r) zero e f = absurd (omega arith)
odd_count zero j a (suc r) (suc zero) e f = ap length (runs_single a r)
odd_count zero j a (suc r) (suc (suc k)) e f = absurd (omega arith)
odd_count (suc m) zero a r k e f = ap length (runs_short false a r k (omega arith))
odd_count (suc m) (suc j) a zero k e f = absurd (omega arith)
odd_count (suc m) (suc j) a (suc zero) k e f = absurd (omega arith)
odd_count (suc m) (suc j) a (suc (suc r)) zero e f = absurd (omega arith)
odd_count (suc m) (suc j) a (suc (suc r)) (suc zero) e f = absurd (omega arith)
odd_count (suc m) (suc j) a (suc (suc r)) (suc (suc k)) e f =
    length_pair a r k ∙ ap (λ n. n + length (runs false (a + 1) (suc r) (suc (suc k)))) (odd_count m j (a + 1 + 1) r k (omega arith) (omega arith))
    ∙ ap (λ n. choose j m + n) (odd_count (suc m) j (a + 1) (suc r) (suc (suc k)) (omega arith) (omega arith))

-- ---- lengths of lists of starts
pub starts_none : (a r : ℕ) → starts a r zero ≡ [] ∷ []
starts_none a zero = refl
starts_none a (suc r) = runs_none (a + 1) r

length_start : (a r k : ℕ) → length (starts a (suc r) (suc k)) ≡ length (starts (a + 1) r k) + length (runs false (a + 1) r (suc k))
length_start a r k =
    length-append (map (λ s. a ∷ s) (starts (a + 1) r k)) (runs false (a + 1) r (suc k)) ∙ ap (λ n. n + length (runs false (a + 1) r (suc k))) (length-map (starts (a + 1) r k) (λ s. a ∷ s))

abbrev OddStarts : ℕ → Type 0
OddStarts m = (j a r k : ℕ) → r ≡ 2 * m + 2 + j → k ≡ 2 * m + 1 → length (starts a r k) ≡ 2 * choose (m + 1 + j) m

abbrev EvenStarts : ℕ → Type 0
EvenStarts m = (j a r k : ℕ) → r ≡ 2 * m + 3 + j → k ≡ 2 * m + 2 → length (starts a r k) ≡ choose (m + 2 + j) (suc m) + choose (m + 1 + j) m

even_from : (m : ℕ) → OddStarts m → EvenStarts m
even_from m odd j a zero k e f = absurd (omega arith)
even_from m odd j a (suc r) zero e f = absurd (omega arith)
even_from m odd j a (suc r) (suc k) e f =
    let p = odd j (a + 1) r k (omega arith) (omega arith) in
    let q = even_count (suc m) (m + 1 + j) (a + 1) r (suc k) (omega arith) (omega arith) in
    let c : choose (m + 2 + j) (suc m) ≡ choose (m + 1 + j) m + choose (m + 1 + j) (suc m) = ap (λ n. choose n (suc m)) (plus m j) in
    omega (arith, length_start a r k, p, q, c)
  where
    plus : (m j : ℕ) → m + 2 + j ≡ suc (m + 1 + j)
    plus m j = omega arith

odd_first : OddStarts zero
odd_first j a zero k e f = absurd (omega arith)
odd_first j a (suc r) zero e f = absurd (omega arith)
odd_first j a (suc r) (suc zero) e f =
    let p = ap length (starts_none (a + 1) r) in
    let q = odd_count zero j (a + 1) r 1 (omega arith) refl in
    omega (arith, length_start a r zero, p, q)
odd_first j a (suc r) (suc (suc k)) e f = absurd (omega arith)

odd_next : (m : ℕ) → EvenStarts m → OddStarts (suc m)
odd_next m even j a zero k e f = absurd (omega arith)
odd_next m even j a (suc r) zero e f = absurd (omega arith)
odd_next m even j a (suc r) (suc k) e f =
    let p = even j (a + 1) r k (omega arith) (omega arith) in
    let q = odd_count (suc m) (m + 1 + j) (a + 1) r (suc k) (omega arith) (omega arith) in
    let c : choose (m + 2 + j) (suc m) ≡ choose (m + 1 + j) m + choose (m + 1 + j) (suc m) = ap (λ n. choose n (suc m)) (plus m j) in
    let d : choose (suc m + 1 + j) (suc m) ≡ choose (m + 2 + j) (suc m) = ap (λ n. choose n (suc m)) (same m j) in
    omega (arith, length_start a r k, p, q, c, d)
  where
    plus : (m j : ℕ) → m + 2 + j ≡ suc (m + 1 + j)
    plus m j = omega arith

    same : (m j : ℕ) → suc m + 1 + j ≡ m + 2 + j
    same m j = omega arith

odd_starts : (m : ℕ) → OddStarts m
odd_starts zero = odd_first
odd_starts (suc m) = odd_next m (even_from m (odd_starts m))

pub count_odd : (k n : ℕ) → k < n → k % 2 ≡ 1 → length (starts 1 n k) ≡ 2 * choose (n - k / 2 - 1) (k / 2)
count_odd k n h e =
    odd_starts (k / 2) (n - k - 1) 1 n k (omega arith) (omega arith) ∙ ap (λ x. 2 * choose x (k / 2)) (same k n h e)
  where
    same : (k n : ℕ) → k < n → k % 2 ≡ 1 → k / 2 + 1 + (n - k - 1) ≡ n - k / 2 - 1
    same k n h e = omega arith

pub count_even : (k n : ℕ) → 1 ≤ k → k < n → k % 2 ≡ 0 → length (starts 1 n k) ≡ choose (n - k / 2) (k / 2) + choose (n - k / 2 - 1) (k / 2 - 1)
count_even k n s h e =
    let m = k / 2 - 1 in
    even_from (k / 2 - 1) (odd_starts (k / 2 - 1)) (n - k - 1) 1 n k (omega arith) (omega arith)
    ∙ ap (λ x. choose x (suc (k / 2 - 1)) + choose (k / 2 - 1 + 1 + (n - k - 1)) (k / 2 - 1)) (first k n s h e)
    ∙ ap (λ x. choose (n - k / 2) x + choose (k / 2 - 1 + 1 + (n - k - 1)) (k / 2 - 1)) (half k s e)
    ∙ ap (λ x. choose (n - k / 2) (k / 2) + choose x (k / 2 - 1)) (second k n s h e)
  where
    first : (k n : ℕ) → 1 ≤ k → k < n → k % 2 ≡ 0 → k / 2 - 1 + 2 + (n - k - 1) ≡ n - k / 2
    first k n s h e = omega arith

    half : (k : ℕ) → 1 ≤ k → k % 2 ≡ 0 → suc (k / 2 - 1) ≡ k / 2
    half k s e = omega arith

    second : (k n : ℕ) → 1 ≤ k → k < n → k % 2 ≡ 0 → k / 2 - 1 + 1 + (n - k - 1) ≡ n - k / 2 - 1
    second k n s h e = omega arith
