-- Laws of binomial coefficients.
use Rattle.std.proofs.Common.{◌≡◌, ℕ, zero, suc, ◌<◌, refl, arith}
use Rattle.simplex.specs.Binomials.{choose}

-- no set of more than n of n things
pub choose_above : (n k : ℕ) → n < k → choose n k ≡ 0
choose_above n zero h = absurd (omega (arith, h))
choose_above zero (suc k) h = refl
choose_above (suc n) (suc k) h = omega (arith, choose_above n k (omega arith), choose_above n (suc k) (omega arith))

-- one set of all
pub choose_all : (n : ℕ) → choose n n ≡ 1
choose_all zero = refl
choose_all (suc n) = omega (arith, choose_all n, choose_above n (suc n) (omega arith))
