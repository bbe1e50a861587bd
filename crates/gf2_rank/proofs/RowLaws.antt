-- A rank is at most the number of the rows.
use Rattle.std.proofs.Common.{◌≡◌, ℕ, zero, suc, ◌+◌, ◌≤◌, Bool, true, false, ◌||◌, cond, List, [], ◌∷◌, ◌++◌, length, map, refl, sym, ap, ◌∙◌, subst, arith, inl, inr}
use Rattle.std.specs.Prelude.{not}
use Rattle.std.specs.Ordering.{nat_cmp, eq_by_cmp}
use Rattle.std.specs.declared.cmp.Ordering.{Ordering}
use Rattle.std.specs.Cmp.{IsTotalOrder}
use Rattle.std.specs.FinMap.{IsAntisymmetric, nat_cmp-IsAntisymmetric}
use Rattle.std.specs.List.{filter, All, Contains}
use Rattle.std.proofs.lemmas.Cmp.{nat_cmp_total}
use Rattle.std.proofs.lemmas.List.{length-map, length-append}
use Rattle.std.proofs.lemmas.List.Elements.{All-contains}
use Rattle.simplex.specs.InOrder.{is_member}
use Rattle.simplex.proofs.InOrderLaws.{itself, equal_is}
use Rattle.simplex.proofs.Members.{In, first, cases, in_left, in_right, in_filter, from_map, none, is_member_at, contains_in, in_contains}
use Rattle.gf2_rank.specs.Elimination.{cleared}
use Rattle.gf2_rank.specs.Span.{difference, rank}
use Rattle.gf2_rank.proofs.SpanLaws.{odd, is_member-difference, rank-pivot, rank-empty, odd_some}

module _ {X : Type 0} where
  ends : (x : X) (xs : List X) → (front : List X) × (last : X) × (x ∷ xs ≡ front ++ last ∷ [])
  ends x [] = ([], x, refl)
  ends x (y ∷ ys) = let r = ends y ys in (x ∷ r.0, r.1, ap (λ zs. x ∷ zs) r.2)

  most_kept : (p : X → Bool) (xs : List X) → length (filter p xs) ≤ length xs
  most_kept p [] = omega arith
  most_kept p (x ∷ xs) =
      let rest = most_kept p xs in
      elim (p x) as (λ v. length (cond v (x ∷ filter p xs) (filter p xs)) ≤ length (x ∷ xs)) [ true ↦ omega arith | false ↦ omega arith ]

  one_gone : (p : X → Bool) (x : X) (xs : List X) → In x xs → p x ≡ false → length (filter p xs) + 1 ≤ length xs
  one_gone p x [] i h = absurd (none x i)
  one_gone p x (y ∷ ys) i h =
      let most = most_kept p ys in
      elim (p y) as (λ v. p y ≡ v → length (cond v (y ∷ filter p ys) (filter p ys)) + 1 ≤ length (y ∷ ys)) [
        | true ↦ λ e. elim (cases i) [ inl f ↦ absurd (cc (e, ap p f, h)) | inr j ↦ let less = one_gone p x ys j h in omega arith ]
        | false ↦ λ e. omega arith
      ] refl

module _ {X : Type 0} {cmp : X → X → Ordering} (o : IsTotalOrder cmp) (exact : IsAntisymmetric cmp) where
  -- the members of the sets are among the rows
  pub record IsInside (ts : List (List X)) (rows : List X) : Type 0 where
    pub inside : (s : List X) (q : X) → In s ts → is_member cmp q s ≡ true → In q rows

  other_rows : X → List X → List X
  other_rows p rows = filter (λ q. not (eq_by_cmp cmp p q)) rows

  fewer_rows : (p : X) (rows : List X) → In p rows → length (other_rows p rows) + 1 ≤ length rows
  unfolding other_rows
  fewer_rows p rows i = one_gone (λ q. not (eq_by_cmp cmp p q)) p rows i (ap not (itself o p))

  -- a set that is cleared has no more rows, and not the row that was cleared
  pub cleared_rows : (p : X) (u t rows : List X) (q : X) → is_member cmp p u ≡ true → ((r : X) → is_member cmp r u ≡ true → In r rows) → ((r : X) → is_member cmp r t ≡ true → In r rows)
      → is_member cmp q (cleared cmp p u t) ≡ true → In q rows
  cleared_rows p u t rows q h f g =
      elim (is_member cmp p t) as (λ v. is_member cmp q (cond v (difference cmp t u) t) ≡ true → In q rows) [
        | true ↦ λ e. elim (odd_some (is_member cmp q t) (is_member cmp q u) (sym (is_member-difference o exact q t u) ∙ e)) [ inl a ↦ g q a | inr a ↦ f q a ]
        | false ↦ λ e. g q e
      ]

  pub cleared_row : (p : X) (u t : List X) → is_member cmp p u ≡ true → is_member cmp p (cleared cmp p u t) ≡ false
  cleared_row p u t h =
      elim (is_member cmp p t) as (λ v. is_member cmp p t ≡ v → is_member cmp p (cond v (difference cmp t u) t) ≡ false) [
        | true ↦ λ e. is_member-difference o exact p t u ∙ ap (λ v. odd v (is_member cmp p u)) e ∙ ap (odd true) h
        | false ↦ λ e. e
      ] refl

  in_other : (p q : X) (rows s : List X) → is_member cmp p s ≡ false → is_member cmp q s ≡ true → In q rows → In q (other_rows p rows)
  unfolding other_rows
  in_other p q rows s h k i =
      in_filter (λ r. not (eq_by_cmp cmp p r)) q rows i
      (elim (eq_by_cmp cmp p q) as (λ v. eq_by_cmp cmp p q ≡ v → not v ≡ true) [
        | true ↦ λ e. absurd (cc (h, k, ap (λ r. is_member cmp r s) (exact p q (equal_is (cmp p q) e))))
        | false ↦ λ e. refl
      ] refl)

  within_step : (rows : List X) (front : List (List X)) (last : List X) → ((us : List (List X)) (rs : List X) → length us ≡ length front → IsInside us rs → rank cmp us ≤ length rs)
      → IsInside (front ++ last ∷ []) rows → rank cmp (front ++ last ∷ []) ≤ length rows
  within_step rows front [] again f =
      let same : rank cmp (front ++ [] ∷ []) ≡ rank cmp front = rank-empty o exact front in
      let most : rank cmp front ≤ length rows = again front rows refl (record { inside = λ s q i h. f.inside s q (in_left s front ([] ∷ []) i) h }) in
      omega arith
  within_step rows front (p ∷ u) again f =
      let member : is_member cmp p (p ∷ u) ≡ true = ap (λ v. v || is_member cmp p u) (itself o p) in
      let c : List X → List X = cleared cmp p (p ∷ u) in
      let pivot : rank cmp (front ++ (p ∷ u) ∷ []) ≡ rank cmp (map c front) + 1 = rank-pivot o exact p (p ∷ u) member front in
      let of_last : (r : X) → is_member cmp r (p ∷ u) ≡ true → In r rows = λ r h. f.inside (p ∷ u) r (in_right (p ∷ u) front ((p ∷ u) ∷ []) first) h in
      let fewer : length (other_rows p rows) + 1 ≤ length rows = fewer_rows p rows (of_last p member) in
      let most : rank cmp (map c front) ≤ length (other_rows p rows) = again (map c front) (other_rows p rows) (length-map front c) (record {
        inside = λ s q i h.
            let at = from_map c s front i in
            let h' : is_member cmp q (c at.0) ≡ true = ap (λ z. is_member cmp q z) (sym at.2) ∙ h in
            in_other p q rows (c at.0) (cleared_row p (p ∷ u) at.0 member) h'
            (cleared_rows p (p ∷ u) at.0 rows q member of_last (λ r k. f.inside at.0 r (in_left at.0 front ((p ∷ u) ∷ []) at.1) k) h');
      }) in
      omega arith

  pub within : (m : ℕ) (ts : List (List X)) (rows : List X) → length ts ≡ m → IsInside ts rows → rank cmp ts ≤ length rows
  within m [] rows e f = omega arith
  within zero (t ∷ ts) rows e f = absurd (omega arith)
  within (suc m) (t ∷ ts) rows e f =
      let r = ends t ts in
      let count : length r.0 ≡ m = omega (arith, ap length r.2, length-append r.0 (r.1 ∷ [])) in
      let most : rank cmp (r.0 ++ r.1 ∷ []) ≤ length rows = within_step rows r.0 r.1 (λ us rs k g. within m us rs (k ∙ count) g) (subst (λ zs. IsInside zs rows) r.2 f) in
      let same : rank cmp (t ∷ ts) ≡ rank cmp (r.0 ++ r.1 ∷ []) = ap (rank cmp) r.2 in
      omega arith

pub rows_lem : (rows : List ℕ) (ts : List (List ℕ)) → All (λ s. (r : ℕ) → Contains s r → Contains rows r) ts → rank nat_cmp ts ≤ length rows
rows_lem rows ts all =
    within nat_cmp_total nat_cmp-IsAntisymmetric (length ts) ts rows refl (record {
      inside = λ s q i h. contains_in rows q (All-contains (λ z. (r : ℕ) → Contains z r → Contains rows r) ts s all (in_contains ts s i) q (in_contains s q (is_member_at nat_cmp_total nat_cmp-IsAntisymmetric q s h)));
    })
