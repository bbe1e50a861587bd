-- Binomial coefficients: where they stand in Pascal's triangle, and how large they are.
use Rattle.std.proofs.Common.{◌≡◌, ℕ, zero, suc, ◌^◌, ◌<◌, ◌≤◌, List, map, get_or, ◌∙◌, ap, refl, arith}
use Rattle.std.proofs.Math.Nat.{pow-suc, pow-le-pow_right, one-le-pow}
use Rattle.std.specs.List.{range_with_len}
use Rattle.std.proofs.lemmas.List.FromFn.{get_or-map-range_with_len}
use Rattle.simplex.specs.Binomials.{choose}

-- the first 13 rows, with 13 places each
abbrev pub triangle : List (List ℕ)
triangle = map (λ n. map (choose n) (range_with_len 0 13)) (range_with_len 0 13)

pub get_or-triangle : (n k : ℕ) (d : List ℕ) (e : ℕ) → n ≤ 12 → k ≤ 12 → get_or (get_or triangle n d) k e ≡ choose n k
get_or-triangle n k d e p q =
    ap (λ row. get_or row k e) (get_or-map-range_with_len (λ n. map (choose n) (range_with_len 0 13)) 0 13 n n d (omega arith) (omega arith))
    ∙ get_or-map-range_with_len (choose n) 0 13 k k e (omega arith) (omega arith)

-- n things have 2^n subsets
pub choose-le : (n k : ℕ) → choose n k ≤ 2 ^ n
choose-le n zero = one-le-pow n 2 (omega arith)
choose-le zero (suc k) = omega arith
choose-le (suc n) (suc k) = rw (pow-suc 2 n) (omega (arith, choose-le n k, choose-le n (suc k)))

pub choose-le_at : (n k : ℕ) → n ≤ 12 → choose n k ≤ 2 ^ 12
choose-le_at n k p = omega (arith, choose-le n k, pow-le-pow_right {n = 2} (omega arith) p)
