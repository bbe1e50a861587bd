-- Signs: by parity, and at sums.
use Rattle.std.proofs.Common.{◌≡◌, ℕ, zero, suc, ◌+◌, ◌%◌, ℤ, pos, ◌+ℤ◌, neg_ℤ, Bool, true, false, cond, not, eqb, add-zero, add-suc, ◌∙◌, ap, sym, refl, arith}
use Rattle.std.proofs.lemmas.Int.{ints}
use Rattle.face_vectors.specs.Vectors.{signed}

pub neg-neg : (z : ℤ) → neg_ℤ (neg_ℤ z) ≡ z
neg-neg z = omega (arith, ints)

neg-add : (y z : ℤ) → neg_ℤ (y +ℤ z) ≡ neg_ℤ y +ℤ neg_ℤ z
neg-add y z = omega (arith, ints)

parity-suc : (k : ℕ) → eqb (suc k % 2) 0 ≡ not (eqb (k % 2) 0)
parity-suc k = grind (arith, eqb)

turned : (b : Bool) (z : ℤ) → neg_ℤ (cond b z (neg_ℤ z)) ≡ cond (not b) z (neg_ℤ z)
turned true z = refl
turned false z = neg-neg z

-- the sign is that of an even or an odd number
pub signed_by_parity : (k : ℕ) (z : ℤ) → signed k z ≡ cond (eqb (k % 2) 0) z (neg_ℤ z)
signed_by_parity zero z = refl
signed_by_parity (suc k) z = ap neg_ℤ (signed_by_parity k z) ∙ turned (eqb (k % 2) 0) z ∙ ap (λ b. cond b z (neg_ℤ z)) (sym (parity-suc k))

pub signed-neg : (k : ℕ) (z : ℤ) → signed k (neg_ℤ z) ≡ neg_ℤ (signed k z)
signed-neg zero z = refl
signed-neg (suc k) z = ap neg_ℤ (signed-neg k z)

pub signed-zero : (k : ℕ) → signed k (pos 0) ≡ pos 0
signed-zero zero = refl
signed-zero (suc k) = ap neg_ℤ (signed-zero k)

pub signed-add : (k : ℕ) (y z : ℤ) → signed k (y +ℤ z) ≡ signed k y +ℤ signed k z
signed-add zero y z = refl
signed-add (suc k) y z = ap neg_ℤ (signed-add k y z) ∙ neg-add (signed k y) (signed k z)

pub signed-signed : (k : ℕ) (z : ℤ) → signed k (signed k z) ≡ z
signed-signed zero z = refl
signed-signed (suc k) z = ap neg_ℤ (signed-neg k (signed k z)) ∙ neg-neg (signed k (signed k z)) ∙ signed-signed k z

-- (-1)^(j+i) is (-1)^j times (-1)^i
pub signed-split : (j i : ℕ) (z : ℤ) → signed (j + i) (signed i z) ≡ signed j z
signed-split j zero z = ap (λ n. signed n z) (add-zero j)
signed-split j (suc i) z = ap (λ n. signed n (neg_ℤ (signed i z))) (add-suc j i) ∙ ap neg_ℤ (signed-neg (j + i) (signed i z)) ∙ neg-neg (signed (j + i) (signed i z)) ∙ signed-split j i z
