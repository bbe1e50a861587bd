-- Tables of ranks, as they are filled.
use Rattle.std.proofs.Common.{◌≡◌, ℕ, zero, suc, ◌+◌, ◌-◌, ◌<◌, ◌≤◌, Bool, true, false, ◌&&◌, leb, ltb, eqb, cond, List, [], ◌∷◌, length, set, map, Some, None, Option, refl, sym, ap, ◌∙◌, arith}
use mathlib.Core.Bool.{true≢false}
use Rattle.std.specs.Prelude.{not, pos, ◌-ℤ◌, ◌++◌}
use Rattle.std.specs.Option.{is_some, unwrap_or}
use Rattle.std.specs.List.{filter, range_with_len}
use Rattle.std.proofs.lemmas.Bool.Decides.{nat_tests}
use Rattle.std.proofs.lemmas.List.{map_push}
use Rattle.std.proofs.lemmas.List.FromFn.{map-range_with_len_more}
use Rattle.std.proofs.lemmas.Int.{ints}
use Rattle.facet_set.specs.Numbers.{size}
use Rattle.simplex.specs.Simplex.{simplex_cmp}
use Rattle.gf2_rank.specs.Span.{rank}
use Rattle.betti_tables.specs.Progress.{IsKeptBelow}
use Rattle.betti_tables.specs.Ranks.{betti_number, column, rank_at}
use Rattle.betti_tables.specs.Table.{AreRanksOf, kept, kept_after, kept_count, missing}
use Rattle.betti_tables.proofs.BoundaryLaws.{rank_above, rank_zero}
use Rattle.betti_tables.proofs.FaceLaws.{no_faces}

-- the ranks that a table is to have
abbrev pub AreAllKept : List (List ℕ) → List (Option ℕ) → Type 0
AreAllKept c t = (k : ℕ) → 1 ≤ k → k < size c → is_some (kept t k) ≡ true

rank_high : (c : List (List ℕ)) (k : ℕ) → 1 ≤ k → size c ≤ k → rank_at c k ≡ 0
rank_high c k low high = rank_above c k (omega arith) ∙ ap (λ ss. rank simplex_cmp (map column ss)) (no_faces c (k + 1) (omega arith))

-- what is not kept is 0
pub kept_rank : (c : List (List ℕ)) (t : List (Option ℕ)) (k : ℕ) → AreRanksOf c t → AreAllKept c t → unwrap_or (kept t k) 0 ≡ rank_at c k
kept_rank c t k ranks all =
    elim (kept t k) as (λ o. kept t k ≡ o → unwrap_or o 0 ≡ rank_at c k) [
      | Some r ↦ λ e. ranks k r e
      | None ↦ λ e.
          elim (leb 1 k) as (λ v. leb 1 k ≡ v → 0 ≡ rank_at c k) [
            | false ↦ λ f. let at : 0 ≡ k = grind (arith, nat_tests) in sym (rank_zero c) ∙ ap (rank_at c) at
            | true ↦ λ f.
                let low : 1 ≤ k = grind (arith, nat_tests) in
                elim (ltb k (size c)) as (λ v. ltb k (size c) ≡ v → 0 ≡ rank_at c k) [
                  | true ↦ λ g. absurd (true≢false (sym (all k low (grind (arith, nat_tests))) ∙ ap is_some e))
                  | false ↦ λ g. sym (rank_high c k low (grind (arith, nat_tests)))
                ] refl
          ] refl
    ] refl

-- one rank more in the table
pub count_set : (t : List (Option ℕ)) (k r : ℕ) → k < length t → is_some (kept t k) ≡ false → kept_count (set t k (Some r)) ≡ kept_count t + 1
count_set [] k r inside h = absurd (omega arith)
count_set (o ∷ t) zero r inside h = let e = ap (λ v. length (cond v (o ∷ filter is_some t) (filter is_some t))) h in omega (arith, e)
count_set (o ∷ t) (suc k) r inside h =
    let rest = count_set t k r (omega arith) h in
    elim (is_some o) as (λ v. length (cond v (o ∷ filter is_some (set t k (Some r))) (filter is_some (set t k (Some r)))) ≡ length (cond v (o ∷ filter is_some t) (filter is_some t)) + 1) [
      | true ↦ omega (arith, rest)
      | false ↦ rest
    ]

-- one place more to see
missing_more : (p : ℕ → Bool) (a n : ℕ) → length (filter p (range_with_len a (suc n))) ≡ length (filter p (range_with_len a n)) + cond (p (a + n)) 1 0
missing_more p a zero =
    let here : a + 0 ≡ a = omega arith in
    count (p a) ∙ ap (λ k. 0 + cond (p k) 1 0) (sym here)
  where
    count : (v : Bool) → length (cond v (a ∷ []) []) ≡ 0 + cond v 1 0
    count true = refl
    count false = refl
missing_more p a (suc n) =
    let xs : List ℕ = filter p (range_with_len (a + 1) (suc n)) in
    let ys : List ℕ = filter p (range_with_len (a + 1) n) in
    let e : ℕ = cond (p (a + suc n)) 1 0 in
    let next : a + 1 + n ≡ a + suc n = omega arith in
    let rest : length xs ≡ length ys + e = missing_more p (a + 1) n ∙ ap (λ k. length ys + cond (p k) 1 0) next in
    elim (p a) as (λ v. length (cond v (a ∷ xs) xs) ≡ length (cond v (a ∷ ys) ys) + e) [ true ↦ omega (arith, rest) | false ↦ rest ]

at_end : (k j : ℕ) → (eqb j k ≡ false) → ltb j (k + 1) ≡ ltb j k
at_end k j e = grind (arith, nat_tests)

inside_end : (k j : ℕ) → 1 ≤ k → j ≡ k → (leb 1 j && ltb j (k + 1)) ≡ true
inside_end k j low e = grind (arith, nat_tests)

not_below : (k : ℕ) → (leb 1 k && ltb k k) ≡ false
not_below zero = refl
not_below (suc k) = grind (arith, nat_tests)

turned : (v : Bool) → let n : ℕ = cond (not v) 1 0 in n ≡ cond v 0 1
turned true = refl
turned false = refl

pub kept_more : (c : List (List ℕ)) (before now new : List (Option ℕ)) (start steps more k : ℕ) → 1 ≤ k → IsKeptBelow c before now start steps k
    → ((j : ℕ) → kept new j ≡ cond (eqb j k) (Some (rank_at c k)) (kept now j)) → more ≡ steps + cond (is_some (kept now k)) 0 1 → more + kept_count now ≡ steps + kept_count new
    → IsKeptBelow c before new start more (k + 1)
kept_more c before now new start steps more k low h table step count =
    record {
      table = λ j.
          elim (eqb j k) as (λ v. eqb j k ≡ v → kept new j ≡ kept_after c before (k + 1) j) [
            | true ↦ λ e.
                let at : j ≡ k = grind (arith, nat_tests) in
                table j ∙ ap (λ v. cond v (Some (rank_at c k)) (kept now j)) e ∙ ap (λ i. Some (rank_at c i)) (sym at)
                ∙ sym (ap (λ v. cond v (Some (rank_at c j)) (kept before j)) (inside_end k j low at))
            | false ↦ λ e.
                table j ∙ ap (λ v. cond v (Some (rank_at c k)) (kept now j)) e ∙ h.table j
                ∙ sym (ap (λ v. cond (leb 1 j && v) (Some (rank_at c j)) (kept before j)) (at_end k j e))
          ] refl;
      steps =
          let p : ℕ → Bool = λ i. not (is_some (kept before i)) in
          let same : kept now k ≡ kept before k = h.table k ∙ ap (λ v. cond v (Some (rank_at c k)) (kept before k)) (not_below k) in
          let fewer : suc (k - 1) ≡ k + 1 - 1 = omega arith in
          let place : 1 + (k - 1) ≡ k = omega arith in
          let one : length (missing before (k + 1)) ≡ length (missing before k) + cond (is_some (kept now k)) 0 1 =
          ap (λ n. length (filter p (range_with_len 1 n))) (sym fewer) ∙ missing_more p 1 (k - 1) ∙ ap (λ i. length (missing before k) + cond (p i) 1 0) place
          ∙ ap (λ n. length (missing before k) + n) (turned (is_some (kept before k)) ∙ ap (λ o. cond (is_some o) 0 1) (sym same)) in
          omega (arith, one, step, h.steps);
      counted = omega (arith, h.counted, count);
    }

-- the numbers
pub number_is : (f r q : ℕ) → r + q ≤ f → pos (f - (r + q)) ≡ pos f -ℤ pos r -ℤ pos q
number_is f r q h = omega (arith, ints)

pub numbers_more : (c : List (List ℕ)) (ns : List ℕ) (n k : ℕ) → pos n ≡ betti_number c k → map pos ns ≡ map (betti_number c) (range_with_len 0 k) → map pos (ns ++ n ∷ []) ≡ map (betti_number c) (range_with_len 0 (k + 1))
numbers_more c ns n k e h =
    let at : 0 + k ≡ k = omega arith in
    map_push pos ns n ∙ ap (λ zs. zs ++ pos n ∷ []) h ∙ ap (λ z. map (betti_number c) (range_with_len 0 k) ++ z ∷ []) e ∙ sym (map-range_with_len_more (betti_number c) 0 k k at)
