-- Laws of the sets that words stand for.
use Rattle.std.proofs.Common.{◌≡◌, ◌≢◌, ℕ, zero, suc, ◌+◌, ◌*◌, ◌/◌, ◌%◌, ◌^◌, ◌<◌, ◌≤◌, Bool, true, false, ◌&&◌, ◌||◌, ltb, List, [], length, get_or, set, replicate, bit_or, bit_xor, ◌⊎◌, inl, inr, refl, sym, ap, ◌∙◌, arith}
use Rattle.std.specs.Prelude.{◌==◌, nat_eq, not, ◌++◌}
use Rattle.std.specs.Int.{bit_at, w64, trailing_zeros}
use Rattle.std.specs.List.{filter, range_with_len}
use Rattle.std.specs.Ordering.{nat_cmp, eq_by_cmp}
use Rattle.std.specs.FinMap.{nat_cmp-IsAntisymmetric}
use Rattle.std.proofs.lemmas.Cmp.{nat_cmp_total}
use Rattle.std.proofs.lemmas.Bool.Decides.{nat_tests}
use Rattle.std.proofs.lemmas.List.{get_or_past, get_or-set_same, get_or-set_other, get_or_read}
use Rattle.std.proofs.lemmas.Nat.Bits.{bit_at-zero, bit_at_xor, bit_at-lt, bit_at_set_same, bit_at_set_other, bit_at-trailing_zeros}
use Rattle.simplex.specs.InOrder.{is_member, is_increasing, put}
use Rattle.simplex.proofs.InOrderLaws.{is_increasing-in_order, is_increasing-put, is_member-put, itself, same_members, equal_is}
use Rattle.simplex.proofs.SimplexLaws.{is_increasing-filter}
use Rattle.simplex.proofs.Decided.{or_left, or_right}
use Rattle.simplex.proofs.Ranges.{range_rising}
use Rattle.gf2_rank.specs.Span.{difference}
use Rattle.gf2_rank.specs.Ones.{is_one, ones}
use Rattle.gf2_rank.proofs.SpanLaws.{odd, is_member-filter, is_member-difference}

at_or_above : (a q : ℕ) → a ≤ q → (q ≡ a) ⊎ (a + 1 ≤ q)
at_or_above a q h = elim (ltb a q) as (λ v. ltb a q ≡ v → (q ≡ a) ⊎ (a + 1 ≤ q)) [ true ↦ λ e. inr (grind (arith, nat_tests)) | false ↦ λ e. inl (grind (arith, nat_tests)) ] refl

range_member : (a n q : ℕ) → a ≤ q → q < a + n → is_member nat_cmp q (range_with_len a n) ≡ true
range_member a zero q h k = absurd (omega arith)
range_member a (suc n) q h k =
    elim (at_or_above a q h) [
      | inl e ↦ or_left (eq_by_cmp nat_cmp q a) (is_member nat_cmp q (range_with_len (a + 1) n)) (ap (eq_by_cmp nat_cmp q) (sym e) ∙ itself nat_cmp_total q)
      | inr above ↦ or_right (eq_by_cmp nat_cmp q a) (is_member nat_cmp q (range_with_len (a + 1) n)) (range_member (a + 1) n q above (omega arith))
    ]

no_one : (n place : ℕ) → n ≡ 0 → (bit_at n place == 1) ≡ false
no_one n place e = ap (λ m. bit_at m place == 1) e ∙ ap (λ b. b == 1) (bit_at-zero place)

one_inside : (ws : List ℕ) (q : ℕ) → is_one ws q ≡ true → q < 64 * length ws
unfolding is_one
one_inside ws q h =
    elim (ltb (q / 64) (length ws)) as (λ v. ltb (q / 64) (length ws) ≡ v → q < 64 * length ws) [
      | true ↦ λ e. let inside : q / 64 < length ws = grind (arith, nat_tests) in omega arith
      | false ↦ λ e. let past : length ws ≤ q / 64 = grind (arith, nat_tests) in absurd (cc (h, no_one (get_or ws (q / 64) 0) (q % 64) (get_or_past ws (q / 64) 0 past)))
    ] refl

and_true : (v w : Bool) → (v ≡ true → w ≡ true) → (v && w) ≡ v
and_true true w f = f refl
and_true false w f = refl

pub is_member-ones : (ws : List ℕ) (q : ℕ) → is_member nat_cmp q (ones ws) ≡ is_one ws q
unfolding ones
is_member-ones ws q =
    is_member-filter nat_cmp_total nat_cmp-IsAntisymmetric (is_one ws) q (range_with_len 0 (64 * length ws))
    ∙ and_true (is_one ws q) (is_member nat_cmp q (range_with_len 0 (64 * length ws))) (λ h. let inside = one_inside ws q h in range_member 0 (64 * length ws) q (omega arith) (omega arith))

pub is_increasing-ones : (ws : List ℕ) → is_increasing nat_cmp (ones ws) ≡ true
unfolding ones
is_increasing-ones ws = is_increasing-filter nat_cmp (is_one ws) (range_with_len 0 (64 * length ws)) (range_rising 0 (64 * length ws))

ones_are : (ws s : List ℕ) → is_increasing nat_cmp s ≡ true → ((q : ℕ) → is_one ws q ≡ is_member nat_cmp q s) → ones ws ≡ s
ones_are ws s h f = same_members nat_cmp_total nat_cmp-IsAntisymmetric (ones ws) s (is_increasing-ones ws) h (λ q. is_member-ones ws q ∙ f q)

-- words of zeros alone
pub ones-none : (ws : List ℕ) → ((k : ℕ) → get_or ws k 0 ≡ 0) → ones ws ≡ []
unfolding is_one
ones-none ws f = ones_are ws [] refl (λ q. no_one (get_or ws (q / 64) 0) (q % 64) (f (q / 64)))

zeros : (n k : ℕ) → ◌≡◌ {A = ℕ} (get_or (replicate n 0) k 0) 0
zeros zero k = refl
zeros (suc n) zero = refl
zeros (suc n) (suc k) = zeros n k

pub ones-replicate : (n : ℕ) → ones (replicate n 0) ≡ []
ones-replicate n = ones-none (replicate n 0) (zeros n)

-- words that are the sums of others
odd_sum : (m n : ℕ) → m < 2 → n < 2 → ((m + n) % 2 == 1) ≡ odd (m == 1) (n == 1)
odd_sum zero zero h k = refl
odd_sum zero (suc zero) h k = refl
odd_sum (suc zero) zero h k = refl
odd_sum (suc zero) (suc zero) h k = refl
odd_sum (suc (suc m)) n h k = absurd (omega arith)
odd_sum m (suc (suc n)) h k = absurd (omega arith)

xor_one : (x y i : ℕ) → (bit_at (bit_xor x y) i == 1) ≡ odd (bit_at x i == 1) (bit_at y i == 1)
xor_one x y i = ap (λ b. b == 1) (bit_at_xor x y i) ∙ odd_sum (bit_at x i) (bit_at y i) (bit_at-lt x i) (bit_at-lt y i)

is_one-xor : (a b c : List ℕ) (q : ℕ) → get_or c (q / 64) 0 ≡ bit_xor (get_or a (q / 64) 0) (get_or b (q / 64) 0) → is_one c q ≡ odd (is_one a q) (is_one b q)
unfolding is_one
is_one-xor a b c q e = ap (λ w. bit_at w (q % 64) == 1) e ∙ xor_one (get_or a (q / 64) 0) (get_or b (q / 64) 0) (q % 64)

pub ones-xor : (a b c : List ℕ) → ((k : ℕ) → get_or c k 0 ≡ bit_xor (get_or a k 0) (get_or b k 0)) → ones c ≡ difference nat_cmp (ones a) (ones b)
ones-xor a b c f =
    ones_are c (difference nat_cmp (ones a) (ones b)) (is_increasing-in_order nat_cmp_total (filter (λ x. not (is_member nat_cmp x (ones b))) (ones a) ++ filter (λ x. not (is_member nat_cmp x (ones a))) (ones b)))
    (λ q. is_one-xor a b c q (f (q / 64)) ∙ ap (λ v. odd v (is_one b q)) (sym (is_member-ones a q)) ∙ ap (λ v. odd (is_member nat_cmp q (ones a)) v) (sym (is_member-ones b q))
    ∙ sym (is_member-difference nat_cmp_total nat_cmp-IsAntisymmetric q (ones a) (ones b)))

-- one more 1
module _ (ws : List ℕ) (row w : ℕ) (inside : row / 64 < length ws) (read : w ≡ get_or ws (row / 64) w) where
  abbrev word : ℕ
  word = bit_or w (1 * 2 ^ (row % 64) % 2 ^ 64)

  set_here : is_one (set ws (row / 64) word) row ≡ true
  unfolding is_one
  set_here = ap (λ x. bit_at x (row % 64) == 1) (get_or-set_same ws (row / 64) word 0 inside) ∙ ap (λ b. b == 1) (bit_at_set_same w64 w (row % 64) (omega arith))

  set_elsewhere : (q : ℕ) → q ≢ row → is_one (set ws (row / 64) word) q ≡ is_one ws q
  unfolding is_one
  set_elsewhere q ne =
      elim (nat_eq (q / 64) (row / 64)) as (λ v. nat_eq (q / 64) (row / 64) ≡ v → (bit_at (get_or (set ws (row / 64) word) (q / 64) 0) (q % 64) == 1) ≡ (bit_at (get_or ws (q / 64) 0) (q % 64) == 1)) [
        | true ↦ λ e.
            let same : q / 64 ≡ row / 64 = grind (arith, nat_tests) in
            let other : q % 64 ≢ row % 64 = λ f. ne (omega arith) in
            ap (λ k. bit_at (get_or (set ws (row / 64) word) k 0) (q % 64) == 1) same
            ∙ ap (λ x. bit_at x (q % 64) == 1) (get_or-set_same ws (row / 64) word 0 inside)
            ∙ ap (λ b. b == 1) (bit_at_set_other w64 w (row % 64) (omega arith) (q % 64) other)
            ∙ ap (λ x. bit_at x (q % 64) == 1) (get_or_read ws (row / 64) w inside read 0)
            ∙ ap (λ k. bit_at (get_or ws k 0) (q % 64) == 1) (sym same)
        | false ↦ λ e.
            let other : q / 64 ≢ row / 64 = grind (arith, nat_tests) in
            ap (λ x. bit_at x (q % 64) == 1) (get_or-set_other ws (row / 64) (q / 64) word 0 other)
      ] refl

  is_one-set : (q : ℕ) → is_one (set ws (row / 64) word) q ≡ (eq_by_cmp nat_cmp q row || is_one ws q)
  is_one-set q =
      elim (eq_by_cmp nat_cmp q row) as (λ v. eq_by_cmp nat_cmp q row ≡ v → is_one (set ws (row / 64) word) q ≡ (v || is_one ws q)) [
        | true ↦ λ e. ap (is_one (set ws (row / 64) word)) (nat_cmp-IsAntisymmetric q row (equal_is (nat_cmp q row) e)) ∙ set_here
        | false ↦ λ e. set_elsewhere q (λ same. absurd (cc (e, ap (λ z. eq_by_cmp nat_cmp z row) same, itself nat_cmp_total row)))
      ] refl

  pub ones-set : ones (set ws (row / 64) (bit_or w (1 * 2 ^ (row % 64) % 2 ^ 64))) ≡ put nat_cmp row (ones ws)
  ones-set =
      ones_are (set ws (row / 64) word) (put nat_cmp row (ones ws)) (is_increasing-put nat_cmp_total row (ones ws) (is_increasing-ones ws))
      (λ q. is_one-set q ∙ ap (λ v. eq_by_cmp nat_cmp q row || v) (sym (is_member-ones ws q)) ∙ sym (is_member-put nat_cmp_total q row (ones ws)))

-- the lowest 1 of a word
pub trailing_member : (ws : List ℕ) (k w : ℕ) → k < length ws → w ≡ get_or ws k w → 0 < w → w < 2 ^ 64 → is_member nat_cmp (64 * k + trailing_zeros w64 w) (ones ws) ≡ true
unfolding is_one
trailing_member ws k w inside read some fits =
    let low = bit_at-trailing_zeros w64 w some fits in
    let t : ℕ = trailing_zeros w64 w in
    let below : t < 64 = low.0 in
    let at : (64 * k + t) / 64 ≡ k = omega arith in
    let place : (64 * k + t) % 64 ≡ t = omega arith in
    is_member-ones ws (64 * k + t)
    ∙ ap (λ i. bit_at (get_or ws i 0) ((64 * k + t) % 64) == 1) at
    ∙ ap (λ i. bit_at (get_or ws k 0) i == 1) place
    ∙ ap (λ x. bit_at x t == 1) (sym (get_or_read ws k w inside read 0))
    ∙ ap (λ b. b == 1) low.1
