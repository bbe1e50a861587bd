-- Laws of sets of places.
use Rattle.std.proofs.Common.{◌≡◌, ◌≢◌, ℕ, zero, suc, ◌+◌, ◌-◌, ◌*◌, ◌/◌, ◌%◌, ◌^◌, ◌<◌, ◌≤◌, true, false, ◌&&◌, ◌||◌, ltb, List, length, get_or, set, replicate, bit_or, bit_and, min, refl, sym, ap, ◌∙◌, arith}
use Rattle.std.specs.Prelude.{◌==◌, nat_eq}
use Rattle.std.specs.Int.{bit_at, w64, trailing_zeros}
use Rattle.std.proofs.lemmas.Bool.Decides.{nat_tests}
use Rattle.std.proofs.lemmas.List.{get_or_past, get_or-set_same, get_or-set_other, get_or_read, length-set}
use Rattle.std.proofs.Math.Nat.{div-le_self}
use Rattle.std.proofs.lemmas.Nat.{shr-shr}
use Rattle.std.proofs.lemmas.Nat.Bits.{bit_at_above, bit_at-zero, bit_at_and, bit_at-lt, bit_at_set_same, bit_at_set_other, bit_at-trailing_zeros}
use Rattle.shellings.specs.Places.{is_one}

no_one : (n place : ℕ) → n ≡ 0 → (bit_at n place == 1) ≡ false
no_one n place e = ap (λ m. bit_at m place == 1) e ∙ ap (λ b. b == 1) (bit_at-zero place)

pub one_inside : (ws : List ℕ) (q : ℕ) → is_one ws q ≡ true → q / 64 < length ws
unfolding is_one
one_inside ws q h =
    elim (ltb (q / 64) (length ws)) as (λ v. ltb (q / 64) (length ws) ≡ v → q / 64 < length ws) [
      | true ↦ λ e. grind (arith, nat_tests)
      | false ↦ λ e. let past : length ws ≤ q / 64 = grind (arith, nat_tests) in absurd (cc (h, no_one (get_or ws (q / 64) 0) (q % 64) (get_or_past ws (q / 64) 0 past)))
    ] refl

pub outside : (ws : List ℕ) (q : ℕ) → length ws ≤ q / 64 → is_one ws q ≡ false
unfolding is_one
outside ws q past = no_one (get_or ws (q / 64) 0) (q % 64) (get_or_past ws (q / 64) 0 past)

zeros : (n k : ℕ) → ◌≡◌ {A = ℕ} (get_or (replicate n 0) k 0) 0
zeros zero k = refl
zeros (suc n) zero = refl
zeros (suc n) (suc k) = zeros n k

pub empty_place : (n k : ℕ) → is_one (replicate n 0) k ≡ false
unfolding is_one
empty_place n k = no_one (get_or (replicate n 0) (k / 64) 0) (k % 64) (zeros n (k / 64))

-- one place more
module _ (ws : List ℕ) (row w : ℕ) (inside : row / 64 < length ws) (read : w ≡ get_or ws (row / 64) w) where
  abbrev word : ℕ
  word = bit_or w (1 * 2 ^ (row % 64) % 2 ^ 64)

  set_here : is_one (set ws (row / 64) word) row ≡ true
  unfolding is_one
  set_here = ap (λ x. bit_at x (row % 64) == 1) (get_or-set_same ws (row / 64) word 0 inside) ∙ ap (λ b. b == 1) (bit_at_set_same w64 w (row % 64) (omega arith))

  set_elsewhere : (q : ℕ) → q ≢ row → is_one (set ws (row / 64) word) q ≡ is_one ws q
  unfolding is_one
  set_elsewhere q ne =
      elim (nat_eq (q / 64) (row / 64)) as (λ v. nat_eq (q / 64) (row / 64) ≡ v → (bit_at (get_or (set ws (row / 64) word) (q / 64) 0) (q % 64) == 1) ≡ (bit_at (get_or ws (q / 64) 0) (q % 64) == 1)) [
        | true ↦ λ e.
            let same : q / 64 ≡ row / 64 = grind (arith, nat_tests) in
            let other : q % 64 ≢ row % 64 = λ f. ne (omega arith) in
            ap (λ k. bit_at (get_or (set ws (row / 64) word) k 0) (q % 64) == 1) same
            ∙ ap (λ x. bit_at x (q % 64) == 1) (get_or-set_same ws (row / 64) word 0 inside)
            ∙ ap (λ b. b == 1) (bit_at_set_other w64 w (row % 64) (omega arith) (q % 64) other)
            ∙ ap (λ x. bit_at x (q % 64) == 1) (get_or_read ws (row / 64) w inside read 0)
            ∙ ap (λ k. bit_at (get_or ws k 0) (q % 64) == 1) (sym same)
        | false ↦ λ e.
            let other : q / 64 ≢ row / 64 = grind (arith, nat_tests) in
            ap (λ x. bit_at x (q % 64) == 1) (get_or-set_other ws (row / 64) (q / 64) word 0 other)
      ] refl

  pub one_put : (q : ℕ) → is_one (set ws (row / 64) (bit_or w (1 * 2 ^ (row % 64) % 2 ^ 64))) q ≡ ((q == row) || is_one ws q)
  one_put q =
      elim (nat_eq q row) as (λ v. nat_eq q row ≡ v → is_one (set ws (row / 64) word) q ≡ (v || is_one ws q)) [
        | true ↦ λ e. let same : q ≡ row = grind (arith, nat_tests) in ap (is_one (set ws (row / 64) word)) same ∙ set_here
        | false ↦ λ e. set_elsewhere q (grind (arith, nat_tests))
      ] refl

-- ---- what is in both
both : (m n : ℕ) → m < 2 → n < 2 → (min m n == 1) ≡ ((m == 1) && (n == 1))
both zero zero h k = refl
both zero (suc zero) h k = refl
both (suc zero) zero h k = refl
both (suc zero) (suc zero) h k = refl
both (suc (suc m)) n h k = absurd (omega arith)
both m (suc (suc n)) h k = absurd (omega arith)

-- c has what is in both at the first n words, and is a from there on
pub record IsKeptTo (a b c : List ℕ) (n : ℕ) : Type 0 where
  pub done : (k : ℕ) → k < n → get_or c k 0 ≡ bit_and (get_or a k 0) (get_or b k 0)
  pub left : (k : ℕ) → n ≤ k → get_or c k 0 ≡ get_or a k 0
  pub len : length c ≡ length a

pub kept_all : (a b c : List ℕ) (n : ℕ) → length a ≤ n → length a ≡ length b → IsKeptTo a b c n → (q : ℕ) → is_one c q ≡ (is_one a q && is_one b q)
unfolding is_one
kept_all a b c n all same h q =
    ap (λ w. bit_at w (q % 64) == 1) (word (q / 64))
    ∙ ap (λ x. x == 1) (bit_at_and (get_or a (q / 64) 0) (get_or b (q / 64) 0) (q % 64))
    ∙ both (bit_at (get_or a (q / 64) 0) (q % 64)) (bit_at (get_or b (q / 64) 0) (q % 64)) (bit_at-lt (get_or a (q / 64) 0) (q % 64)) (bit_at-lt (get_or b (q / 64) 0) (q % 64))
  where
    none : bit_and 0 0 ≡ 0
    none = refl

    word : (k : ℕ) → get_or c k 0 ≡ bit_and (get_or a k 0) (get_or b k 0)
    word k =
        elim (ltb k n) as (λ v. ltb k n ≡ v → get_or c k 0 ≡ bit_and (get_or a k 0) (get_or b k 0)) [
          | true ↦ λ e. h.done k (grind (arith, nat_tests))
          | false ↦ λ e.
              let past : n ≤ k = grind (arith, nat_tests) in
              h.left k past ∙ get_or_past a k 0 (omega arith) ∙ sym none ∙ ap (λ z. bit_and z 0) (sym (get_or_past a k 0 (omega arith))) ∙ ap (λ z. bit_and (get_or a k 0) z) (sym (get_or_past b k 0 (omega arith)))
        ] refl

-- ---- the next place
-- no place from the first one up to the second
pub record NoneFrom (ws : List ℕ) (from place : ℕ) : Type 0 where
  pub above : from ≤ place
  pub none : (k : ℕ) → from ≤ k → k < place → is_one ws k ≡ false

module _ (ws : List ℕ) (from place w : ℕ) (inside : place / 64 < length ws) (read : w ≡ get_or ws (place / 64) w) (none : NoneFrom ws from place) where
  -- a place of this word
  here : (q : ℕ) → place ≤ q → q / 64 ≡ place / 64 → is_one ws q ≡ (bit_at (w / 2 ^ (place % 64)) (q - place) == 1)
  unfolding is_one
  here q h e =
      let sum : place % 64 + (q - place) ≡ q % 64 = omega arith in
      ap (λ k. bit_at (get_or ws k 0) (q % 64) == 1) e
      ∙ ap (λ x. bit_at x (q % 64) == 1) (sym (get_or_read ws (place / 64) w inside read 0))
      ∙ ap (λ t. bit_at w t == 1) (sym sum)
      ∙ ap (λ x. x % 2 == 1) (sym (shr-shr w (place % 64) (q - place)))

  pub word_empty : w / 2 ^ (place % 64) ≡ 0 → NoneFrom ws from (place + (64 - place % 64))
  word_empty z = record {
    above = let a = none.above in omega (arith, a);
    none = λ k f h. elim (ltb k place) as (λ v. ltb k place ≡ v → is_one ws k ≡ false) [
      | true ↦ λ e. none.none k f (grind (arith, nat_tests))
      | false ↦ λ e. let past : place ≤ k = grind (arith, nat_tests) in here k past (omega arith) ∙ no_one (w / 2 ^ (place % 64)) (k - place) z
    ] refl;
  }

  module _ (some : 0 < w / 2 ^ (place % 64)) (fits : w < 2 ^ 64) where
    abbrev t : ℕ
    t = trailing_zeros w64 (w / 2 ^ (place % 64))

    low : (t < 64) × (bit_at (w / 2 ^ (place % 64)) t ≡ 1) × ((i : ℕ) → i < t → bit_at (w / 2 ^ (place % 64)) i ≡ 0)
    low = let less = div-le_self w (2 ^ (place % 64)) in bit_at-trailing_zeros w64 (w / 2 ^ (place % 64)) some (omega (arith, less, fits))

    within : place % 64 + t < 64
    within = elim (ltb (place % 64 + t) 64) as (λ v. ltb (place % 64 + t) 64 ≡ v → place % 64 + t < 64) [
      | true ↦ λ e. grind (arith, nat_tests)
      | false ↦ λ e.
          let past : 64 ≤ place % 64 + t = grind (arith, nat_tests) in
          let zero_there : bit_at w (place % 64 + t) ≡ 0 = bit_at_above w 64 (place % 64 + t) fits past in
          let one_there : bit_at w (place % 64 + t) ≡ 1 = ap (λ x. x % 2) (sym (shr-shr w (place % 64) t)) ∙ low.1 in
          absurd (omega (arith, zero_there, one_there))
    ] refl

    pub one_next : is_one ws (place + trailing_zeros w64 (w / 2 ^ (place % 64))) ≡ true
    one_next =
        let inside = within in
        let diff : place + t - place ≡ t = omega arith in
        here (place + t) (omega arith) (omega (arith, inside)) ∙ ap (λ i. bit_at (w / 2 ^ (place % 64)) i == 1) diff ∙ ap (λ b. b == 1) low.1

    pub none_before : (k : ℕ) → from ≤ k → k < place + trailing_zeros w64 (w / 2 ^ (place % 64)) → is_one ws k ≡ false
    none_before k f h = elim (ltb k place) as (λ v. ltb k place ≡ v → is_one ws k ≡ false) [
      | true ↦ λ e. none.none k f (grind (arith, nat_tests))
      | false ↦ λ e.
          let past : place ≤ k = grind (arith, nat_tests) in
          let inside = within in
          here k past (omega (arith, inside, past, h)) ∙ ap (λ b. b == 1) (low.2 (k - place) (omega (arith, past, h)))
    ] refl

-- all places from the first on
pub none_left : (ws : List ℕ) (from place : ℕ) → length ws ≤ place / 64 → NoneFrom ws from place → (k : ℕ) → from ≤ k → is_one ws k ≡ false
none_left ws from place past none k f = elim (ltb k place) as (λ v. ltb k place ≡ v → is_one ws k ≡ false) [
  | true ↦ λ e. none.none k f (grind (arith, nat_tests))
  | false ↦ λ e. let above : place ≤ k = grind (arith, nat_tests) in outside ws k (omega (arith, past, above))
] refl

pub none_first : (ws : List ℕ) (from : ℕ) → NoneFrom ws from from
none_first ws from = record { above = omega arith; none = λ k f h. absurd (omega (arith, f, h)) }

pub kept_none : (a b : List ℕ) → IsKeptTo a b a 0
kept_none a b = record { done = λ k h. absurd (omega arith); left = λ k h. refl; len = refl }

pub kept_more : (a b c : List ℕ) (n x y : ℕ) → n < length c → n < length b → x ≡ get_or c n x → y ≡ get_or b n y → IsKeptTo a b c n → IsKeptTo a b (set c n (bit_and x y)) (n + 1)
kept_more a b c n x y inside inside_b read read_b h =
    record {
      done = λ k below.
          elim (nat_eq k n) as (λ v. nat_eq k n ≡ v → get_or (set c n (bit_and x y)) k 0 ≡ bit_and (get_or a k 0) (get_or b k 0)) [
            | true ↦ λ e.
                let same : k ≡ n = grind (arith, nat_tests) in
                ap (λ i. get_or (set c n (bit_and x y)) i 0) same ∙ get_or-set_same c n (bit_and x y) 0 inside
                ∙ ap (λ z. bit_and z y) (get_or_read c n x inside read 0 ∙ h.left n (omega arith)) ∙ ap (λ z. bit_and (get_or a n 0) z) (get_or_read b n y inside_b read_b 0)
                ∙ ap (λ i. bit_and (get_or a i 0) (get_or b i 0)) (sym same)
            | false ↦ λ e. let other : k ≢ n = grind (arith, nat_tests) in get_or-set_other c n k (bit_and x y) 0 other ∙ h.done k (omega arith)
          ] refl;
      left = λ k above. let other : k ≢ n = λ e. omega arith in get_or-set_other c n k (bit_and x y) 0 other ∙ h.left k (omega arith);
      len = length-set c n (bit_and x y) ∙ h.len;
    }
