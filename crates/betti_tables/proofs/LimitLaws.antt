-- The limit on the numbers of faces, tested dimension by dimension.
use Rattle.std.proofs.Common.{◌≡◌, ℕ, zero, suc, ◌+◌, ◌-◌, ◌<◌, ◌≤◌, true, false, leb, cond, List, length, map, Some, None, Option, refl, ap, ◌∙◌, subst, arith}
use Rattle.std.specs.Prelude.{nat_le}
use Rattle.std.specs.List.{range_with_len}
use Rattle.std.proofs.lemmas.Bool.Decides.{nat_tests}
use Rattle.simplex.specs.FirstFailing.{first_failing}
use Rattle.facet_set.specs.Numbers.{face_count, size}
use Rattle.gf2_rank.specs.Matrix.{side_limit}
use Rattle.betti_tables.specs.declared.betti_fault.BettiFault.{BettiFault}
use Rattle.betti_tables.specs.declared.betti_fault.BettiFault.TheVariants.{RankLimit}
use Rattle.betti_tables.specs.Laws.{LimitIsTheLeast}
use Rattle.betti_tables.specs.Limits.{limit_test, limit_fault}
use Rattle.betti_tables.proofs.FaceLaws.{no_faces}

-- the first fault among the dimensions k, .., n-1
pub fault_from : List (List ℕ) → ℕ → ℕ → Option BettiFault
fault_from c k n = first_failing (map (limit_test c) (range_with_len k (n - k)))

pub fault_all : (c : List (List ℕ)) (n : ℕ) → n ≡ size c → fault_from c 0 n ≡ limit_fault c
unfolding fault_from limit_fault
fault_all c n e = let same : n - 0 ≡ size c = omega (arith, e) in ap (λ m. first_failing (map (limit_test c) (range_with_len 0 m))) same

more : (c : List (List ℕ)) (k n : ℕ) → k < n → fault_from c k n ≡ cond (nat_le (face_count c (k + 1)) side_limit) (fault_from c (k + 1) n) (Some (RankLimit k))
unfolding fault_from
more c k n h =
    let same : n - k ≡ suc (n - (k + 1)) = omega arith in
    ap (λ m. first_failing (map (limit_test c) (range_with_len k m))) same

pub fault_here : (c : List (List ℕ)) (k n : ℕ) → k < n → side_limit < face_count c (k + 1) → fault_from c k n ≡ Some (RankLimit k)
fault_here c k n h above =
    let e : leb (face_count c (k + 1)) side_limit ≡ false = grind (arith, nat_tests) in
    more c k n h ∙ ap (λ v. cond v (fault_from c (k + 1) n) (Some (RankLimit k))) e

pub fault_next : (c : List (List ℕ)) (k n : ℕ) → k < n → face_count c (k + 1) ≤ side_limit → fault_from c k n ≡ fault_from c (k + 1) n
fault_next c k n h within =
    let e : leb (face_count c (k + 1)) side_limit ≡ true = grind (arith, nat_tests) in
    more c k n h ∙ ap (λ v. cond v (fault_from c (k + 1) n) (Some (RankLimit k))) e

pub fault_none : (c : List (List ℕ)) (k n : ℕ) → n ≤ k → fault_from c k n ≡ None
unfolding fault_from
fault_none c k n h = let same : n - k ≡ 0 = omega arith in ap (λ m. first_failing (map (limit_test c) (range_with_len k m))) same

none_below : (c : List (List ℕ)) (a m j : ℕ) → first_failing (map (limit_test c) (range_with_len a m)) ≡ None → a ≤ j → j < a + m → face_count c (j + 1) ≤ side_limit
none_below c a zero j h low high = absurd (omega arith)
none_below c a (suc m) j h low high =
    elim (leb (face_count c (a + 1)) side_limit) as (λ v. leb (face_count c (a + 1)) side_limit ≡ v → cond v (first_failing (map (limit_test c) (range_with_len (a + 1) m))) (Some (RankLimit a)) ≡ None → face_count c (j + 1) ≤ side_limit) [
      | true ↦ λ e k.
          elim (leb (a + 1) j) as (λ v. leb (a + 1) j ≡ v → face_count c (j + 1) ≤ side_limit) [
            | true ↦ λ f. let up : a + 1 ≤ j = grind (arith, nat_tests) in none_below c (a + 1) m j k up (omega arith)
            | false ↦ λ f. let at : a ≡ j = grind (arith, nat_tests) in let here : face_count c (a + 1) ≤ side_limit = grind (arith, nat_tests) in subst (λ i. face_count c (i + 1) ≤ side_limit) at here
          ] refl
      | false ↦ λ e k. cc
    ] refl h

-- no number of faces is above the limit where there is no fault
pub within_limit : (c : List (List ℕ)) (k : ℕ) → limit_fault c ≡ None → face_count c (k + 1) ≤ side_limit
unfolding limit_fault
within_limit c k h =
    elim (leb (k + 1) (size c)) as (λ v. leb (k + 1) (size c) ≡ v → face_count c (k + 1) ≤ side_limit) [
      | true ↦ λ e. let inside : k + 1 ≤ size c = grind (arith, nat_tests) in none_below c 0 (size c) k h (omega arith) (omega arith)
      | false ↦ λ e. let above : size c < k + 1 = grind (arith, nat_tests) in let none = ap length (no_faces c (k + 1) above) in omega (arith, none)
    ] refl

all_pass : (c : List (List ℕ)) (a m : ℕ) → ((k : ℕ) → face_count c (k + 1) ≤ side_limit) → first_failing (map (limit_test c) (range_with_len a m)) ≡ None
all_pass c a zero f = refl
all_pass c a (suc m) f =
    let here = f a in
    let e : leb (face_count c (a + 1)) side_limit ≡ true = grind (arith, nat_tests) in
    ap (λ v. cond v (first_failing (map (limit_test c) (range_with_len (a + 1) m))) (Some (RankLimit a))) e ∙ all_pass c (a + 1) m f

-- what the first fault says, and what it is
record IsFirst (c : List (List ℕ)) (a k : ℕ) : Type 0 where
  low : a ≤ k
  above : side_limit < face_count c (k + 1)
  least : (j : ℕ) → a ≤ j → j < k → face_count c (j + 1) ≤ side_limit

first_is : (c : List (List ℕ)) (a m k : ℕ) → first_failing (map (limit_test c) (range_with_len a m)) ≡ Some (RankLimit k) → IsFirst c a k
first_is c a zero k h = cc
first_is c a (suc m) k h =
    elim (leb (face_count c (a + 1)) side_limit) as (λ v. leb (face_count c (a + 1)) side_limit ≡ v → cond v (first_failing (map (limit_test c) (range_with_len (a + 1) m))) (Some (RankLimit a)) ≡ Some (RankLimit k) → IsFirst c a k) [
      | true ↦ λ e f.
          let r = first_is c (a + 1) m k f in
          let here : face_count c (a + 1) ≤ side_limit = grind (arith, nat_tests) in
          record {
            low = omega (arith, r.low);
            above = r.above;
            least = λ j low high.
                elim (leb (a + 1) j) as (λ v. leb (a + 1) j ≡ v → face_count c (j + 1) ≤ side_limit) [
                  | true ↦ λ g. r.least j (grind (arith, nat_tests)) high
                  | false ↦ λ g. let at : a ≡ j = grind (arith, nat_tests) in subst (λ i. face_count c (i + 1) ≤ side_limit) at here
                ] refl;
          }
      | false ↦ λ e f.
          let at : a ≡ k = cc in
          let over : side_limit < face_count c (a + 1) = grind (arith, nat_tests) in
          record { low = omega (arith, at); above = subst (λ i. side_limit < face_count c (i + 1)) at over; least = λ j low high. absurd (omega (arith, at)) }
    ] refl h

first_from : (c : List (List ℕ)) (a m k : ℕ) → k < a + m → IsFirst c a k → first_failing (map (limit_test c) (range_with_len a m)) ≡ Some (RankLimit k)
first_from c a zero k h f = absurd (omega (arith, f.low))
first_from c a (suc m) k h f =
    elim (leb (face_count c (a + 1)) side_limit) as (λ v. leb (face_count c (a + 1)) side_limit ≡ v → cond v (first_failing (map (limit_test c) (range_with_len (a + 1) m))) (Some (RankLimit a)) ≡ Some (RankLimit k)) [
      | true ↦ λ e.
          let here : face_count c (a + 1) ≤ side_limit = grind (arith, nat_tests) in
          let apart : a ≡ k → ⊥ = λ at. let over = subst (λ i. face_count c (i + 1) ≤ side_limit) at here in omega (arith, over, f.above) in
          let up : a + 1 ≤ k = above_from a k f.low apart in
          first_from c (a + 1) m k (omega arith) (record { low = up; above = f.above; least = λ j low high. f.least j (omega arith) high })
      | false ↦ λ e.
          let over : side_limit < face_count c (a + 1) = grind (arith, nat_tests) in
          elim (leb (a + 1) k) as (λ v. leb (a + 1) k ≡ v → Some (RankLimit a) ≡ Some (RankLimit k)) [
            | true ↦ λ g. let up : a < k = grind (arith, nat_tests) in let no = f.least a (omega arith) up in absurd (omega (arith, no, over))
            | false ↦ λ g. let low = f.low in let at : a ≡ k = grind (arith, nat_tests) in ap (λ i. Some (RankLimit i)) at
          ] refl
    ] refl
  where
    above_from : (x y : ℕ) → x ≤ y → (x ≡ y → ⊥) → x + 1 ≤ y
    above_from x y l n = omega arith

pub limit_lem : LimitIsTheLeast
unfolding limit_fault
limit_lem c = (
  (λ h k. within_limit c k h, λ f. all_pass c 0 (size c) f),
  λ k. (
    λ h. let r = first_is c 0 (size c) k h in record { above = r.above; least = λ j l. r.least j (omega arith) l },
    λ h. first_from c 0 (size c) k (inside k h.above) (record { low = omega arith; above = h.above; least = λ j l m. h.least j m }),
  ),
)
  where
    inside : (k : ℕ) → side_limit < face_count c (k + 1) → k < 0 + size c
    inside k over =
        elim (leb (k + 1) (size c)) as (λ v. leb (k + 1) (size c) ≡ v → k < 0 + size c) [
          | true ↦ λ e. grind (arith, nat_tests)
          | false ↦ λ e. let up : size c < k + 1 = grind (arith, nat_tests) in let none = ap length (no_faces c (k + 1) up) in absurd (omega (arith, none, over))
        ] refl
