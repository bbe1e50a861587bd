-- The parts of an outer set that are simplices.
use Rattle.std.proofs.Common.{◌≡◌, ℕ, suc, ◌≤◌, ◌<◌, ◌+◌, ◌*◌, ◌/◌, ◌%◌, ◌^◌, Bool, true, false, cond, List, [], ◌∷◌, length, None, refl, sym, ap, arith}
use Rattle.std.specs.Bool.{IsTrue}
use Rattle.std.specs.Prelude.{◌==◌, nat_le}
use Rattle.std.specs.Ordering.{is_lt, nat_cmp}
use Rattle.std.specs.List.{list_all}
use Rattle.std.proofs.lemmas.Bool.Decides.{nat_tests}
use Rattle.std.proofs.Math.Pow.{pow_mono}
use Rattle.simplex.specs.InOrder.{is_increasing}
use Rattle.simplex.specs.Simplex.{is_label, is_simplex, subset_at}
use Rattle.simplex.proofs.Decided.{false_from}
use Rattle.simplex.proofs.Filled.{short_of, simplex_from}
use Rattle.simplex.proofs.InOrderLaws.{and_both, and_left, and_right}
use Rattle.simplex.proofs.SubsetLaws.{full_subset, subset_odd, subset_even, odd_is}
use Rattle.face_lattice.specs.Lattice.{LatticeState, id_in, id_of_part, is_outer}
use Rattle.face_lattice.proofs.MaskLaws.{double}

-- ---- the labels at places
choice_all : (q : ℕ → Bool) (v : Bool) (a : ℕ) (t : List ℕ) → q a ≡ true → list_all q t ≡ true → list_all q (cond v (a ∷ t) t) ≡ true
choice_all q true a t h k = and_both _ _ h k
choice_all q false a t h k = k

subset_all : (q : ℕ → Bool) (s : List ℕ) (m : ℕ) → list_all q s ≡ true → list_all q (subset_at s m) ≡ true
subset_all q [] m h = refl
subset_all q (a ∷ s) m h = choice_all q (m % 2 == 1) a (subset_at s (m / 2)) (and_left _ _ h) (subset_all q s (m / 2) (and_right (q a) _ h))

choice_rising : (v : Bool) (a : ℕ) (t : List ℕ) → list_all (λ b. is_lt (nat_cmp a b)) t ≡ true → is_increasing nat_cmp t ≡ true → is_increasing nat_cmp (cond v (a ∷ t) t) ≡ true
choice_rising true a t h k = and_both _ _ h k
choice_rising false a t h k = k

subset_rising : (s : List ℕ) (m : ℕ) → is_increasing nat_cmp s ≡ true → is_increasing nat_cmp (subset_at s m) ≡ true
subset_rising [] m h = refl
subset_rising (a ∷ s) m h =
    choice_rising (m % 2 == 1) a (subset_at s (m / 2)) (subset_all (λ b. is_lt (nat_cmp a b)) s (m / 2) (and_left _ _ h)) (subset_rising s (m / 2) (and_right (list_all (λ b. is_lt (nat_cmp a b)) s) _ h))

choice_length : (v : Bool) (a n : ℕ) (t : List ℕ) → length t ≤ n → length (cond v (a ∷ t) t) ≤ n + 1
choice_length true a n t h = omega arith
choice_length false a n t h = omega arith

subset_length : (s : List ℕ) (m : ℕ) → length (subset_at s m) ≤ length s
subset_length [] m = omega arith
subset_length (a ∷ s) m = omega (arith, choice_length (m % 2 == 1) a (length s) (subset_at s (m / 2)) (subset_length s (m / 2)))

-- only the last number is that of the whole
subset_shorter : (s : List ℕ) (m : ℕ) → m + 1 < 2 ^ length s → length (subset_at s m) < length s
subset_shorter [] m h = absurd (omega (arith, h))
subset_shorter (a ∷ s) m h =
    let d = double (length s) in
    let some = subset_length s (m / 2) in
    elim (m % 2 == 1) as (λ v. (m % 2 == 1) ≡ v → length (subset_at (a ∷ s) m) < suc (length s)) [
      | true ↦ λ e.
          let o = odd_is m e in
          let l = subset_shorter s (m / 2) (omega (arith, h, d, o)) in
          omega (arith, ap length (subset_odd a s m e), l)
      | false ↦ λ e. omega (arith, ap length (subset_even a s m e), some)
    ] refl

outer_short : (s : List ℕ) → IsTrue (is_outer s) → length s ≤ 13
outer_short s h = let e : nat_le (length s) 13 ≡ true = and_left (nat_le (length s) 13) _ (and_left _ (is_increasing nat_cmp s) h) in grind (arith, nat_tests)

-- the number of parts, as the machine has it
pub parts_are : (s : List ℕ) → IsTrue (is_outer s) → 1 * 2 ^ length s % 2 ^ 32 ≡ 2 ^ length s
parts_are s h =
    let small : 2 ^ length s ≤ 2 ^ 13 = pow_mono (outer_short s h) in
    omega arith

pub place_is : (s : List ℕ) (k : ℕ) → IsTrue (is_outer s) → k < length s → 1 * 2 ^ k % 2 ^ 32 ≡ 2 ^ k
place_is s k h l =
    let b : k ≤ 13 = omega (arith, outer_short s h, l) in
    let small : 2 ^ k ≤ 2 ^ 13 = pow_mono b in
    omega arith

part_of : (s : List ℕ) (m : ℕ) → IsTrue (is_outer s) → length (subset_at s m) ≤ 12 → IsTrue (is_simplex (subset_at s m))
part_of s m h l = simplex_from (subset_at s m) l (subset_all is_label s m (and_right (nat_le (length s) 13) _ (and_left _ (is_increasing nat_cmp s) h))) (subset_rising s m (and_right _ (is_increasing nat_cmp s) h))

pub part_short : (s : List ℕ) (m : ℕ) → IsTrue (is_outer s) → length s ≤ 12 → IsTrue (is_simplex (subset_at s m))
part_short s m h l = part_of s m h (omega (arith, l, subset_length s m))

pub part_other : (s : List ℕ) (m : ℕ) → IsTrue (is_outer s) → m + 1 < 2 ^ length s → IsTrue (is_simplex (subset_at s m))
part_other s m h l = part_of s m h (omega (arith, outer_short s h, subset_shorter s m l))

pub part_last : (l : LatticeState) (s : List ℕ) (m : ℕ) → 12 < length s → m + 1 ≡ 2 ^ length s → None ≡ id_of_part l s m
part_last l s m b e = sym (ap (λ v. cond v (id_in l (subset_at s m)) None) (false_from (is_simplex (subset_at s m)) (λ h. absurd (omega (arith, b, short_of (subset_at s m) h, ap length (full_subset s m e))))))

pub part_is : (l : LatticeState) (s : List ℕ) (m : ℕ) → IsTrue (is_simplex (subset_at s m)) → id_in l (subset_at s m) ≡ id_of_part l s m
part_is l s m h = sym (ap (λ v. cond v (id_in l (subset_at s m)) None) h)
