-- A flip leaves the faces with fewer labels than both of its sets, and so their ranks.
use Rattle.std.proofs.Common.{◌≡◌, ℕ, ◌+◌, ◌<◌, ◌≤◌, true, false, eqb, leb, List, length, map, min, Option, Some, None, refl, sym, ap, ◌∙◌, subst, inl, inr, arith}
use mathlib.Core.Bool.{true≢false}
use Rattle.std.specs.Option.{is_some}
use Rattle.std.specs.List.{list_all, filter}
use Rattle.std.proofs.lemmas.Bool.Decides.{nat_tests}
use Rattle.std.proofs.lemmas.Cmp.{nat_list_cmp_total}
use Rattle.simplex.specs.Simplex.{is_simplex, is_within, simplex_cmp, union, without}
use Rattle.simplex.proofs.Decided.{false_from, eqb_equal, le_at}
use Rattle.simplex.proofs.Filled.{rising_of}
use Rattle.simplex.proofs.Members.{In, all_at, all_from, in_filter, from_filter, same_sets}
use Rattle.simplex.proofs.SimplexLaws.{within_in, in_within, within_length, label_beside, in_union, from_union, in_without, from_without, is_increasing-union}
use Rattle.facet_set.specs.Complex.{is_face, faces, facets_with}
use Rattle.facet_set.specs.Flips.{allowed, ball, flip}
use Rattle.facet_set.specs.Numbers.{faces_of_size}
use Rattle.facet_set.proofs.ComplexLaws.{exact, is_set, face_at, face_from, from_faces, in_faces, sets_of}
use Rattle.facet_set.proofs.FlipLaws.{Parts, parts_of, from_ball, in_ball, in_flip, from_flip}
use Rattle.betti_tables.specs.FlipLaws.{RanksStayBelow, KeptRanksStay}
use Rattle.gf2_rank.specs.Span.{rank}
use Rattle.betti_tables.specs.Ranks.{column, rank_at}
use Rattle.betti_tables.specs.Table.{AreRanksOf, kept}
use Rattle.betti_tables.proofs.FaceLaws.{of_size, in_size, rising_faces}
use Rattle.betti_tables.proofs.BoundaryLaws.{rank_above, rank_zero}

-- a set in one ball that has fewer labels than the ball's first set lies in the other ball too
in_other : (a b s t : List ℕ) → is_set a ≡ true → is_set s ≡ true → length s < length a → In t (ball a b) → is_within s t ≡ true → (u : List ℕ) × In u (ball b a) × (is_within s u ≡ true)
in_other a b s t sa ss few i w =
    let y = label_beside a s (false_from (is_within a s) (λ h. let l = within_length a s sa ss h in omega arith)) in
    let x = from_ball a b t i in (
      union b (without a y.0),
      in_ball b a y.0 y.1,
      in_within s (union b (without a y.0)) (λ z j. in_union b (without a y.0) z (elim (from_union a (without b x.0) z (subst (λ u. In z u) x.2 (within_in s t z w j))) [
        | inl k ↦ inr (in_without a y.0 z k (λ e. y.2 (subst (λ v. In v s) e j)))
        | inr k ↦ inl (from_without b x.0 z k).0
      ])),
    )

module _ (c : List (List ℕ)) (a b : List ℕ) (simple : list_all is_simplex c ≡ true) (sa : is_simplex a ≡ true) (sb : is_simplex b ≡ true) (ok : allowed c a b ≡ true) where
  there : Parts c a b
  there = parts_of c a b ok

  face_after : (s : List ℕ) → is_set s ≡ true → length s < length a → is_face c s ≡ true → is_face (flip c a b) s ≡ true
  face_after s ss few h =
      let t = face_at c s h in
      elim (is_within a t.0) as (λ v. is_within a t.0 ≡ v → is_face (flip c a b) s ≡ true) [
        | true ↦ λ w. let u = in_other a b s t.0 (rising_of a sa) ss few (subst (λ l. In t.0 l) there.star (in_filter (is_within a) t.0 c t.1 w)) t.2 in
            face_from (flip c a b) s u.0 (in_flip c a b u.0 (inr u.1)) u.2
        | false ↦ λ w. face_from (flip c a b) s t.0 (in_flip c a b t.0 (inl (t.1, w))) t.2
      ] refl

  face_before : (s : List ℕ) → is_set s ≡ true → length s < length b → is_face (flip c a b) s ≡ true → is_face c s ≡ true
  face_before s ss few h =
      let t = face_at (flip c a b) s h in
      elim (from_flip c a b t.0 t.1) [
        | inl j ↦ face_from c s t.0 j.0 t.2
        | inr j ↦ let u = in_other b a s t.0 (rising_of b sb) ss few j t.2 in
            face_from c s u.0 (from_filter (is_within a) u.0 c (subst (λ l. In u.0 l) (sym there.star) u.1)).0 u.2
      ]

  sets_after : list_all is_set (flip c a b) ≡ true
  sets_after = all_from is_set (flip c a b) (λ t i. elim (from_flip c a b t i) [
    | inl j ↦ rising_of t (all_at is_simplex t c simple j.0)
    | inr j ↦ let r = from_ball b a t j in ap is_set r.2 ∙ is_increasing-union b (without a r.0)
  ])

  module _ (n : ℕ) (below_a : n < length a) (below_b : n < length b) where
    stays : (s : List ℕ) → In s (faces_of_size c n) → In s (faces_of_size (flip c a b) n)
    stays s i =
        let r = of_size c n s i in
        let f = from_faces c s (sets_of c simple) r.0 in
        in_size (flip c a b) n s (in_faces (flip c a b) s sets_after f.0 (face_after s f.0 (omega (arith, r.1)) f.1)) r.1

    stood : (s : List ℕ) → In s (faces_of_size (flip c a b) n) → In s (faces_of_size c n)
    stood s i =
        let r = of_size (flip c a b) n s i in
        let f = from_faces (flip c a b) s sets_after r.0 in
        in_size c n s (in_faces c s (sets_of c simple) f.0 (face_before s f.0 (omega (arith, r.1)) f.1)) r.1

    pub faces_stay : faces_of_size (flip c a b) n ≡ faces_of_size c n
    faces_stay = same_sets nat_list_cmp_total exact (faces_of_size (flip c a b) n) (faces_of_size c n) (rising_faces (flip c a b) n) (rising_faces c n) stood stays

pub ranks_stay_below_lem : RanksStayBelow
ranks_stay_below_lem c a b simple cx sa sb ok k few =
    elim (eqb k 0) as (λ v. eqb k 0 ≡ v → rank_at (flip c a b) k ≡ rank_at c k) [
      | true ↦ λ e. ap (rank_at (flip c a b)) (eqb_equal k 0 e) ∙ rank_zero (flip c a b) ∙ sym (rank_zero c) ∙ ap (rank_at c) (sym (eqb_equal k 0 e))
      | false ↦ λ e.
          let some : 0 < k = grind (arith, nat_tests) in
          rank_above (flip c a b) k some ∙ ap (λ fs. rank simplex_cmp (map column fs)) (faces_stay c a b simple sa sb ok (k + 1) (omega arith) (omega arith)) ∙ sym (rank_above c k some)
    ] refl

pub kept_ranks_stay_lem : KeptRanksStay
kept_ranks_stay_lem c a b simple cx sa sb ok t ranks none k r e =
    elim (leb (min (length a) (length b)) (k + 1)) as (λ v. leb (min (length a) (length b)) (k + 1) ≡ v → r ≡ rank_at (flip c a b) k) [
      | true ↦ λ h. absurd (none_some (sym (none k (le_at (min (length a) (length b)) (k + 1) h)) ∙ e))
      | false ↦ λ h. ranks k r e ∙ sym (ranks_stay_below_lem c a b simple cx sa sb ok k (above (min (length a) (length b)) (k + 1) h))
    ] refl
  where
    above : (m n : ℕ) → leb m n ≡ false → n < m
    above m n h = grind (arith, nat_tests)

    none_some : None ≡ Some r → ⊥
    none_some h = true≢false (sym (ap is_some h))
