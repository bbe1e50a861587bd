-- Alternating sums of numbers that are told by their places.
use Rattle.std.proofs.Common.{◌≡◌, ℕ, zero, suc, ◌+◌, ◌<◌, ◌≤◌, Bool, true, false, ◌∷◌, map, ℤ, pos, ◌+ℤ◌, ◌-ℤ◌, refl, ap, ◌∙◌, arith}
use Rattle.std.specs.Prelude.{◌==◌}
use Rattle.std.specs.List.{range_with_len}
use Rattle.std.proofs.lemmas.Int.{ints}
use Rattle.simplex.proofs.Decided.{equal_at, equal_from, false_at, false_from}
use Rattle.face_vectors.specs.Vectors.{alternating}
use Rattle.morse_lists.proofs.RankLaws.{one_if}

abbrev pub signed_sum : (ℕ → ℕ) → ℕ → ℕ → ℤ
signed_sum g a n = alternating (map g (range_with_len a n))

pub signed_same : (g h : ℕ → ℕ) (a n : ℕ) → ((k : ℕ) → g k ≡ h k) → signed_sum g a n ≡ signed_sum h a n
signed_same g h a zero e = refl
signed_same g h a (suc n) e = ap (λ x. pos x -ℤ signed_sum g (a + 1) n) (e a) ∙ ap (λ z. pos (h a) -ℤ z) (signed_same g h (a + 1) n e)

pub signed_add : (g h d : ℕ → ℕ) (a n : ℕ) → ((k : ℕ) → g k ≡ h k + d k) → signed_sum g a n ≡ signed_sum h a n +ℤ signed_sum d a n
signed_add g h d a zero e = refl
signed_add g h d a (suc n) e = omega (arith, ints, e a, signed_add g h d (a + 1) n e)

pub signed_zero : (d : ℕ → ℕ) (a n : ℕ) → ((k : ℕ) → a ≤ k → d k ≡ 0) → signed_sum d a n ≡ pos 0
signed_zero d a zero e = refl
signed_zero d a (suc n) e = omega (arith, ints, e a (omega arith), signed_zero d (a + 1) n (λ k l. e k (omega arith)))

-- a free face with p labels and the one with a label more
abbrev pub pair_at : ℕ → ℕ → ℕ
pair_at p k = one_if (p + 1 == k + 1) + one_if (p == k + 1)

off : (x y : ℕ) → (x ≡ y → ⊥) → one_if (x == y) ≡ 0
off x y f = ap one_if (false_from (x == y) (λ e. f (equal_at x y e)))

on : (x y : ℕ) → x ≡ y → one_if (x == y) ≡ 1
on x y e = ap one_if (equal_from x y e)

pair_first : (p a n : ℕ) → p ≡ a + 1 → p < a + n → signed_sum (pair_at p) a n ≡ pos 0
pair_first p a zero e l = absurd (omega arith)
pair_first p a (suc zero) e l = absurd (omega arith)
pair_first p a (suc (suc n)) e l =
    let first : one_if (p + 1 == a + 1) ≡ 0 = off (p + 1) (a + 1) (λ f. omega arith) in
    let second : one_if (p == a + 1) ≡ 1 = on p (a + 1) e in
    let third : one_if (p + 1 == a + 1 + 1) ≡ 1 = on (p + 1) (a + 1 + 1) (omega arith) in
    let fourth : one_if (p == a + 1 + 1) ≡ 0 = off p (a + 1 + 1) (λ f. omega arith) in
    let rest : signed_sum (pair_at p) (a + 1 + 1) n ≡ pos 0 =
    signed_zero (pair_at p) (a + 1 + 1) n (λ k m. omega (arith, off (p + 1) (k + 1) (λ f. omega arith), off p (k + 1) (λ f. omega arith))) in
    omega (arith, ints, first, second, third, fourth, rest)

pub pair_zero : (p a n : ℕ) → a + 1 ≤ p → p < a + n → signed_sum (pair_at p) a n ≡ pos 0
pair_zero p a zero h l = absurd (omega arith)
pair_zero p a (suc n) h l = by (p == a + 1) refl (λ g. pair_zero p (a + 1) n g (omega arith))
  where
    by : (b : Bool) → (p == a + 1) ≡ b → (a + 1 + 1 ≤ p → signed_sum (pair_at p) (a + 1) n ≡ pos 0) → signed_sum (pair_at p) a (suc n) ≡ pos 0
    by true e f = pair_first p a (suc n) (equal_at p (a + 1) e) l
    by false e f =
        let apart : p ≡ a + 1 → ⊥ = λ g. false_at (p == a + 1) e (equal_from p (a + 1) g) in
        let rest = f (beyond apart) in
        let first : one_if (p + 1 == a + 1) ≡ 0 = off (p + 1) (a + 1) (λ g. omega arith) in
        let second : one_if (p == a + 1) ≡ 0 = off p (a + 1) apart in
        omega (arith, ints, first, second, rest)
      where
        beyond : (p ≡ a + 1 → ⊥) → a + 1 + 1 ≤ p
        beyond g = omega (arith, g)

-- places from 1 on and from 0 on
pub places_shift : (g : ℕ → ℕ) (a n : ℕ) → map g (range_with_len (a + 1) n) ≡ map (λ k. g (k + 1)) (range_with_len a n)
places_shift g a zero = refl
places_shift g a (suc n) = ap (λ l. g (a + 1) ∷ l) (places_shift g (a + 1) n)
