-- Columns, and sets of places at which they add up to nothing: the ranks of both are together at most the number of the columns.
use Rattle.std.proofs.Common.{◌≡◌, ◌+◌, ◌≤◌, Bool, true, false, ◌&&◌, cond, List, [], ◌∷◌, ◌++◌, length, map, refl, sym, ap, ◌∙◌, arith, inl, inr}
use Rattle.std.specs.declared.cmp.Ordering.{Ordering}
use Rattle.std.specs.Cmp.{IsTotalOrder}
use Rattle.std.specs.FinMap.{IsAntisymmetric}
use Rattle.std.specs.List.{list_any}
use Rattle.std.proofs.lemmas.List.Sorted.{IsPermutation-append_comm}
use Rattle.simplex.specs.InOrder.{is_member}
use Rattle.simplex.proofs.Members.{In, cases, from_map, any_from, any_at}
use Rattle.simplex.proofs.Decided.{false_from, or_left, or_right}
use Rattle.gf2_rank.specs.Elimination.{cleared}
use Rattle.gf2_rank.specs.Span.{difference, is_in_span, rank}
use Rattle.gf2_rank.proofs.SpanLaws.{odd, is_member-difference, rank-pivot, odd_comm}
use Rattle.gf2_rank.proofs.OrderLaws.{span_same, rank-permutation}
use Rattle.gf2_rank.proofs.RowLaws.{cleared_row, cleared_rows, within}

-- whether the test holds an odd number of times
abbrev pub parity : {X : Type 0} → (X → Bool) → List X → Bool
parity p [] = false
parity p (x ∷ xs) = odd (p x) (parity p xs)

odd_middle : (a b c d : Bool) → odd (odd a b) (odd c d) ≡ odd (odd a c) (odd b d)
odd_middle true true true true = refl
odd_middle true true true false = refl
odd_middle true true false true = refl
odd_middle true true false false = refl
odd_middle true false true true = refl
odd_middle true false true false = refl
odd_middle true false false true = refl
odd_middle true false false false = refl
odd_middle false true true true = refl
odd_middle false true true false = refl
odd_middle false true false true = refl
odd_middle false true false false = refl
odd_middle false false true true = refl
odd_middle false false true false = refl
odd_middle false false false true = refl
odd_middle false false false false = refl

odd_last : (a b : Bool) → odd (odd a b) b ≡ a
odd_last true true = refl
odd_last true false = refl
odd_last false true = refl
odd_last false false = refl

odd_same : (a b : Bool) → odd a b ≡ false → a ≡ b
odd_same true true h = refl
odd_same true false h = cc
odd_same false b h = sym h

odd_and : (a b c : Bool) → (odd a b && c) ≡ odd (a && c) (b && c)
odd_and true true true = refl
odd_and true true false = refl
odd_and true false true = refl
odd_and true false false = refl
odd_and false b c = refl

pub parity-odd : {X : Type 0} (p r : X → Bool) (xs : List X) → parity (λ x. odd (p x) (r x)) xs ≡ odd (parity p xs) (parity r xs)
parity-odd p r [] = refl
parity-odd p r (x ∷ xs) = ap (odd (odd (p x) (r x))) (parity-odd p r xs) ∙ odd_middle (p x) (r x) (parity p xs) (parity r xs)

pub parity-same : {X : Type 0} (p r : X → Bool) (xs : List X) → ((x : X) → p x ≡ r x) → parity p xs ≡ parity r xs
parity-same p r [] f = refl
parity-same p r (x ∷ xs) f = ap (λ v. odd v (parity p xs)) (f x) ∙ ap (odd (r x)) (parity-same p r xs f)

module _ {X Y : Type 0} {cmp : X → X → Ordering} {cmp' : Y → Y → Ordering} (o : IsTotalOrder cmp) (exact : IsAntisymmetric cmp) (o' : IsTotalOrder cmp') (exact' : IsAntisymmetric cmp') (f : X → List Y) where
  -- whether q is in an odd number of the columns of those names that are in t
  abbrev pub adds : List X → List X → Y → Bool
  adds names t q = parity (λ x. is_member cmp x t && is_member cmp' q (f x)) names

  -- sets of names whose columns add up to nothing
  pub record AreRelations (names : List X) (ts : List (List X)) : Type 0 where
    pub inside : (t : List X) (x : X) → In t ts → is_member cmp x t ≡ true → In x names
    pub nothing : (t : List X) (q : Y) → In t ts → adds names t q ≡ false

  adds-difference : (names s t : List X) (q : Y) → adds names (difference cmp s t) q ≡ odd (adds names s q) (adds names t q)
  adds-difference names s t q =
      let c : X → Bool = λ x. is_member cmp' q (f x) in
      parity-same (λ x. is_member cmp x (difference cmp s t) && c x) (λ x. odd (is_member cmp x s && c x) (is_member cmp x t && c x)) names
      (λ x. ap (λ v. v && c x) (is_member-difference o exact x s t) ∙ odd_and (is_member cmp x s) (is_member cmp x t) (c x))
      ∙ parity-odd (λ x. is_member cmp x s && c x) (λ x. is_member cmp x t && c x) names

  -- the columns of those names that are in t, added up
  summed : (names t : List X) → (w : List Y) × (is_in_span cmp' (map f names) w ≡ true) × ((q : Y) → is_member cmp' q w ≡ adds names t q)
  summed [] t = ([], refl, λ q. refl)
  summed (n ∷ names) t =
      let r = summed names t in
      let us : List (List Y) = map f names in
      elim (is_member cmp n t) as (λ v. (w : List Y) × (is_in_span cmp' (f n ∷ us) w ≡ true) × ((q : Y) → is_member cmp' q w ≡ odd (v && is_member cmp' q (f n)) (adds names t q))) [
        | true ↦
            let w : List Y = difference cmp' r.0 (f n) in (
              w,
              or_right (is_in_span cmp' us w) (is_in_span cmp' us (difference cmp' w (f n)))
                  (span_same o' exact' us (difference cmp' w (f n)) r.0
                  (λ q. is_member-difference o' exact' q w (f n) ∙ ap (λ v. odd v (is_member cmp' q (f n))) (is_member-difference o' exact' q r.0 (f n)) ∙ odd_last (is_member cmp' q r.0) (is_member cmp' q (f n)))
                  ∙ r.1),
              λ q. is_member-difference o' exact' q r.0 (f n) ∙ ap (λ v. odd v (is_member cmp' q (f n))) (r.2 q) ∙ odd_comm (adds names t q) (is_member cmp' q (f n)),
            )
        | false ↦ (r.0, or_left (is_in_span cmp' us r.0) (is_in_span cmp' us (difference cmp' r.0 (f n))) r.1, r.2)
      ]

  -- a column that is in no relation can be left out
  fewer : (n : X) (names : List X) (ts : List (List X)) → AreRelations (n ∷ names) ts → ((t : List X) → In t ts → is_member cmp n t ≡ false) → AreRelations names ts
  fewer n names ts h out =
      record {
        inside = λ t x i m. elim (cases (h.inside t x i m)) [ inl e ↦ absurd (cc (ap (λ y. is_member cmp y t) e, m, out t i)) | inr j ↦ j ];
        nothing = λ t q i. sym (ap (λ v. odd (v && is_member cmp' q (f n)) (adds names t q)) (out t i)) ∙ h.nothing t q i;
      }

  -- one that is in a relation is in the span of the others
  spanned : (n : X) (names : List X) (ts : List (List X)) (t : List X) → AreRelations (n ∷ names) ts → In t ts → is_member cmp n t ≡ true → is_in_span cmp' (map f names) (f n) ≡ true
  spanned n names ts t h i m =
      let r = summed names t in
      span_same o' exact' (map f names) (f n) r.0
      (λ q. odd_same (is_member cmp' q (f n)) (adds names t q) (sym (ap (λ v. odd (v && is_member cmp' q (f n)) (adds names t q)) m) ∙ h.nothing t q i) ∙ sym (r.2 q))
      ∙ r.1

  -- relations stay relations when one of them clears a name
  cleared_relations : (n : X) (u names : List X) (ts : List (List X)) → is_member cmp n u ≡ true → In u ts → AreRelations names ts → AreRelations names (map (cleared cmp n u) ts)
  cleared_relations n u names ts m j h =
      record {
        inside = λ t x i k.
            let at = from_map (cleared cmp n u) t ts i in
            cleared_rows o exact n u at.0 names x m (λ r l. h.inside u r j l) (λ r l. h.inside at.0 r at.1 l) (ap (λ z. is_member cmp x z) (sym at.2) ∙ k);
        nothing = λ t q i.
            let at = from_map (cleared cmp n u) t ts i in
            ap (λ z. adds names z q) at.2
            ∙ elim (is_member cmp n at.0) as (λ v. adds names (cond v (difference cmp at.0 u) at.0) q ≡ false) [
              | true ↦ adds-difference names at.0 u q ∙ ap (λ v. odd v (adds names u q)) (h.nothing at.0 q at.1) ∙ h.nothing u q j
              | false ↦ h.nothing at.0 q at.1
            ];
      }

  rank_cleared : (n : X) (u : List X) (ts : List (List X)) → is_member cmp n u ≡ true → rank cmp ts ≤ rank cmp (map (cleared cmp n u) ts) + 1
  rank_cleared n u ts m =
      let pivot : rank cmp (ts ++ u ∷ []) ≡ rank cmp (map (cleared cmp n u) ts) + 1 = rank-pivot o exact n u m ts in
      let turned : rank cmp (ts ++ u ∷ []) ≡ rank cmp (u ∷ ts) = rank-permutation o exact (u ∷ ts) (ts ++ u ∷ []) (IsPermutation-append_comm (u ∷ []) ts) in
      let more : rank cmp ts ≤ rank cmp (u ∷ ts) = elim (is_in_span cmp ts u) as (λ v. rank cmp ts ≤ cond v (rank cmp ts) (rank cmp ts + 1)) [ true ↦ omega arith | false ↦ omega arith ] in
      omega (arith, pivot, turned, more)

  pub kernel : (names : List X) (ts : List (List X)) → AreRelations names ts → rank cmp' (map f names) + rank cmp ts ≤ length names
  kernel [] ts h =
      let none : rank cmp ts ≤ 0 = within o exact (length ts) ts [] refl (record { inside = λ t x i m. h.inside t x i m }) in
      omega (arith, none)
  kernel (n ∷ names) ts h =
      let us : List (List Y) = map f names in
      elim (is_in_span cmp' us (f n)) as (λ v. is_in_span cmp' us (f n) ≡ v → cond v (rank cmp' us) (rank cmp' us + 1) + rank cmp ts ≤ length (n ∷ names)) [
        | true ↦ λ e.
            elim (list_any (is_member cmp n) ts) as (λ v. list_any (is_member cmp n) ts ≡ v → rank cmp' us + rank cmp ts ≤ length (n ∷ names)) [
              | true ↦ λ k.
                  let at = any_at (is_member cmp n) ts k in
                  let cs : List (List X) = map (cleared cmp n at.0) ts in
                  let less : rank cmp' us + rank cmp cs ≤ length names =
                  kernel names cs (fewer n names cs (cleared_relations n at.0 (n ∷ names) ts at.2 at.1 h)
                  (λ t i. let from = from_map (cleared cmp n at.0) t ts i in ap (is_member cmp n) from.2 ∙ cleared_row o exact n at.0 from.0 at.2)) in
                  let one : rank cmp ts ≤ rank cmp cs + 1 = rank_cleared n at.0 ts at.2 in
                  omega (arith, less, one)
              | false ↦ λ k.
                  let less : rank cmp' us + rank cmp ts ≤ length names = kernel names ts (fewer n names ts h (λ t i. false_from (is_member cmp n t) (λ m. absurd (cc (any_from (is_member cmp n) t ts i m, k))))) in
                  omega (arith, less)
            ] refl
        | false ↦ λ e.
            let less : rank cmp' us + rank cmp ts ≤ length names = kernel names ts (fewer n names ts h (λ t i. false_from (is_member cmp n t) (λ m. absurd (cc (spanned n names ts t h i m, e))))) in
            omega (arith, less)
      ] refl
