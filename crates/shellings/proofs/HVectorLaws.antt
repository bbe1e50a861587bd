-- The alternating sums of the h-vector, for the subsets of facets above their restrictions.
use Rattle.std.proofs.Common.{◌≡◌, ℕ, zero, suc, ◌+◌, ◌-◌, ◌*◌, ◌≤◌, ◌<◌, Bool, true, false, cond, nat_le, List, [], ◌∷◌, length, ℤ, pos, negsuc, ◌+ℤ◌, refl, sym, ap, ◌∙◌, arith}
use Rattle.std.specs.Prelude.{◌==◌}
use Rattle.std.specs.List.{list_all, filter, range_with_len}
use Rattle.std.proofs.lemmas.Int.{ints}
use Rattle.std.proofs.lemmas.Bool.Decides.{nat_tests}
use Rattle.simplex.specs.Binomials.{choose}
use Rattle.simplex.proofs.Members.{In, first, later, at_head, all_at}
use Rattle.face_vectors.specs.Vectors.{signed}
use Rattle.face_vectors.proofs.SumLaws.{total, total_same, total_add, total_front, total_zero}
use Rattle.face_vectors.proofs.SignLaws.{signed-add, signed-zero}
use Rattle.shellings.proofs.SubsetCounts.{above_count}

-- the term of h_k, for any numbers of faces with 0, 1, .. labels
abbrev pub term : ℕ → ℕ → (ℕ → ℕ) → ℕ → ℤ
term n k count i = signed (k - i) (pos (choose (n - i) (k - i) * count i))

-- h_k for these
abbrev pub h_at : ℕ → ℕ → (ℕ → ℕ) → ℤ
h_at n k count = total (term n k count) (suc k)

-- ---- all subsets
abbrev is_zero : ℤ → Bool
is_zero (pos zero) = true
is_zero (pos (suc n)) = false
is_zero (negsuc n) = false

zero_at : (z : ℤ) → is_zero z ≡ true → z ≡ pos 0
zero_at (pos zero) h = refl
zero_at (pos (suc n)) h = cc
zero_at (negsuc n) h = cc

abbrev vanish : ℕ → Bool
vanish n = list_all (λ k. is_zero (h_at n (suc k) (choose n))) (range_with_len 0 n)

table : list_all vanish (range_with_len 0 13) ≡ true
table = refl

in_range : (a n i : ℕ) → a ≤ i → i < a + n → In i (range_with_len a n)
in_range a zero i p q = absurd (omega arith)
in_range a (suc n) i p q = by (nat_le i a) refl (in_range (a + 1) n i)
  where
    by : (v : Bool) → nat_le i a ≡ v → (a + 1 ≤ i → i < a + 1 + n → In i (range_with_len (a + 1) n)) → In i (a ∷ range_with_len (a + 1) n)
    by true e rest = at_head i a (range_with_len (a + 1) n) (same e)
      where
        same : nat_le i a ≡ true → i ≡ a
        same e = grind (arith, nat_tests)
    by false e rest = later (rest (low e) (omega arith))
      where
        low : nat_le i a ≡ false → a + 1 ≤ i
        low e = grind (arith, nat_tests)

whole : (n k : ℕ) → n ≤ 12 → suc k ≤ n → h_at n (suc k) (choose n) ≡ pos 0
whole n k p q =
    zero_at (h_at n (suc k) (choose n))
    (all_at (λ j. is_zero (h_at n (suc j) (choose n))) k (range_with_len 0 n) (all_at vanish n (range_with_len 0 13) table (in_range 0 13 n (omega arith) (omega arith))) (in_range 0 n k (omega arith) (omega arith)))

-- ---- one label more that all have
times_zero : (m : ℕ) → m * 0 ≡ 0
times_zero m = omega arith

fewer : (m i : ℕ) → suc m - suc i ≡ m - i
fewer m i = omega arith

shift : (n r k : ℕ) → h_at (suc n) (suc k) (above_count (suc n) (suc r)) ≡ h_at n k (above_count n r)
shift n r k =
    let t = term (suc n) (suc k) (above_count (suc n) (suc r)) in
    let none : t 0 ≡ pos 0 = ap (λ m. signed (suc k - 0) (pos m)) (times_zero (choose (suc n - 0) (suc k - 0))) ∙ signed-zero (suc k - 0) in
    let rest : total (λ i. t (suc i)) (suc k) ≡ h_at n k (above_count n r) =
    total_same (λ i. t (suc i)) (term n k (above_count n r)) (suc k) (λ i l.
    ap (λ m. signed m (pos (choose (suc n - suc i) m * above_count n r i))) (fewer k i)
    ∙ ap (λ m. signed (k - i) (pos (choose m (k - i) * above_count n r i))) (fewer n i)) in
    let front = total_front t (suc k) in
    omega (arith, ints, front, none, rest)

apart_left : (k : ℕ) → (zero == suc k) ≡ false
apart_left k = grind (arith, nat_tests)

apart_right : (k : ℕ) → (suc k == zero) ≡ false
apart_right k = grind (arith, nat_tests)

both_more : (r k : ℕ) → (suc r == suc k) ≡ (r == k)
both_more r k = grind (arith, nat_tests)

-- the subsets of n things above r of them add one to h_r alone
pub single : (n r k : ℕ) → n ≤ 12 → r ≤ n → k ≤ n → h_at n k (above_count n r) ≡ pos (cond (r == k) 1 0)
single n zero zero p q s = refl
single n zero (suc k) p q s = whole n k p s ∙ ap (λ v. pos (cond v 1 0)) (sym (apart_left k))
single zero (suc r) k p q s = absurd (omega arith)
single (suc n) (suc r) zero p q s = ap (λ v. pos (cond v 1 0)) (sym (apart_right r))
single (suc n) (suc r) (suc k) p q s = shift n r k ∙ single n r k (omega arith) (omega arith) (omega arith) ∙ ap (λ v. pos (cond v 1 0)) (sym (both_more r k))

-- ---- sums
h_zero : (n k : ℕ) → h_at n k (λ i. 0) ≡ pos 0
h_zero n k = total_zero (term n k (λ i. 0)) (suc k) (λ i l. ap (λ m. signed (k - i) (pos m)) (times_zero (choose (n - i) (k - i))) ∙ signed-zero (k - i))

term_add : (m c x y : ℕ) → signed m (pos (c * (x + y))) ≡ signed m (pos (c * x)) +ℤ signed m (pos (c * y))
term_add m c x y = let e : c * (x + y) ≡ c * x + c * y = omega arith in ap (λ v. signed m (pos v)) e ∙ signed-add m (pos (c * x)) (pos (c * y))

h_add : (n k : ℕ) (f g : ℕ → ℕ) → h_at n k (λ i. f i + g i) ≡ h_at n k f +ℤ h_at n k g
h_add n k f g =
    total_same (term n k (λ i. f i + g i)) (λ i. term n k f i +ℤ term n k g i) (suc k) (λ i l. term_add (k - i) (choose (n - i) (k - i)) (f i) (g i))
    ∙ total_add (term n k f) (term n k g) (suc k)

-- how many sets with i labels the intervals hold together
abbrev pub above_all : ℕ → List (List ℕ × List ℕ) → ℕ → ℕ
above_all n [] i = 0
above_all n (x ∷ l) i = above_count n (length x.0) i + above_all n l i

pub h_all : (n k : ℕ) (l : List (List ℕ × List ℕ)) → n ≤ 12 → k ≤ n → ((x : List ℕ × List ℕ) → In x l → length x.0 ≤ n)
    → h_at n k (above_all n l) ≡ pos (length (filter (λ (x : List ℕ × List ℕ). length x.0 == k) l))
h_all n k [] p q f = h_zero n k
h_all n k (x ∷ l) p q f =
    let one = single n (length x.0) k p (f x first) q in
    let rest = h_all n k l p q (λ y i. f y (later i)) in
    let sum = h_add n k (above_count n (length x.0)) (above_all n l) in
    sum ∙ ap (λ z. z +ℤ h_at n k (above_all n l)) one ∙ ap (λ z. pos (cond (length x.0 == k) 1 0) +ℤ z) rest ∙ by (length x.0 == k)
  where
    F : List (List ℕ × List ℕ)
    F = filter (λ (y : List ℕ × List ℕ). length y.0 == k) l

    by : (v : Bool) → pos (cond v 1 0) +ℤ pos (length F) ≡ pos (length (cond v (x ∷ F) F))
    by true = omega (arith, ints)
    by false = omega (arith, ints)
