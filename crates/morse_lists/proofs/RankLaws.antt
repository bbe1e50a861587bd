-- The numbers of faces and the ranks, after a facet goes.
use Rattle.std.proofs.Common.{◌≡◌, ℕ, zero, suc, ◌+◌, ◌<◌, ◌≤◌, Bool, true, false, cond, ◌||◌, List, [], ◌∷◌, ◌++◌, map, length, length-append, refl, sym, ap, ◌∙◌, subst, inl, inr, arith}
use mathlib.Core.Bool.{true≢false}
use Rattle.std.specs.Prelude.{◌==◌, Some}
use Rattle.std.specs.List.{filter}
use Rattle.std.proofs.lemmas.Cmp.{nat_list_cmp_total}
use Rattle.std.proofs.lemmas.List.{map-append}
use Rattle.std.proofs.lemmas.List.Elements.{filter-append}
use Rattle.std.proofs.lemmas.List.Sorted.{IsPermutation-middle}
use Rattle.simplex.specs.InOrder.{is_member}
use Rattle.simplex.specs.Simplex.{simplex_cmp, without}
use Rattle.simplex.proofs.Members.{In, first, later, from_filter, from_map, in_either, in_left, in_right, is_member_at, is_member_from}
use Rattle.simplex.proofs.Decided.{equal_from, false_from}
use Rattle.facet_set.specs.Complex.{faces, stands_in}
use Rattle.facet_set.specs.Facets.{IsFacets}
use Rattle.facet_set.specs.Numbers.{face_count, faces_of_size}
use Rattle.facet_set.proofs.ComplexLaws.{exact, is_set, from_faces, sets_of}
use Rattle.gf2_rank.specs.Span.{difference, is_in_span, rank}
use Rattle.gf2_rank.proofs.OrderLaws.{rank-permutation}
use Rattle.gf2_rank.proofs.SpanLaws.{odd, is_member-difference}
use Rattle.betti_tables.specs.Ranks.{column, rank_at}
use Rattle.betti_tables.proofs.BoundaryLaws.{rank_above, rank_zero}
use Rattle.collapse_moves.specs.Collapses.{partner, drop_face}
use Rattle.collapse_moves.proofs.FreeLaws.{partner_only}
use Rattle.morse_lists.specs.Laws.{RankOfAnyOrder}
use Rattle.morse_lists.proofs.DropLaws.{IsDrop, dropped, not_left}
use Rattle.morse_lists.proofs.UpLaws.{IsCover, cover_over, cover_new}

abbrev pub one_if : Bool → ℕ
one_if b = cond b 1 0

pub any_order_lem : RankOfAnyOrder
any_order_lem xs ys p = rank-permutation nat_list_cmp_total exact xs ys p

-- ---- columns
abbrev Column : Type 0
Column = List (List ℕ)

abbrev in_span : List Column → Column → Bool
in_span = is_in_span simplex_cmp

-- a column among others counts one, or none where it is in their span
rank_middle : (xs ys : List Column) (x : Column) → rank simplex_cmp (xs ++ x ∷ ys) ≡ cond (in_span (xs ++ ys) x) (rank simplex_cmp (xs ++ ys)) (rank simplex_cmp (xs ++ ys) + 1)
rank_middle xs ys x = sym (rank-permutation nat_list_cmp_total exact (xs ++ x ∷ ys) (x ∷ (xs ++ ys)) (IsPermutation-middle xs x ys))

-- what has a member that no column has is not in their span
not_in_span : (q : List ℕ) (ts : List Column) (x : Column) → is_member simplex_cmp q x ≡ true → ((t : Column) → In t ts → is_member simplex_cmp q t ≡ false) → in_span ts x ≡ false
not_in_span q [] [] h f = absurd (true≢false (sym h))
not_in_span q [] (y ∷ x) h f = refl
not_in_span q (t ∷ ts) x h f =
    let other : is_member simplex_cmp q (difference simplex_cmp x t) ≡ true =
    is_member-difference nat_list_cmp_total exact q x t ∙ ap (λ v. odd (is_member simplex_cmp q x) v) (f t first) ∙ ap (λ v. odd v false) h in
    ap (λ v. v || in_span ts (difference simplex_cmp x t)) (not_in_span q ts x h (λ u i. f u (later i)))
    ∙ not_in_span q ts (difference simplex_cmp x t) other (λ u i. f u (later i))

-- ---- the faces of one size
abbrev sized : ℕ → List (List ℕ) → List (List ℕ)
sized n l = filter (λ s. length s == n) l

sized_cut : (n : ℕ) (front back : List (List ℕ)) (f : List ℕ) → sized n (front ++ f ∷ back) ≡ sized n front ++ cond (length f == n) (f ∷ sized n back) (sized n back)
sized_cut n front back f = filter-append (λ s. length s == n) front (f ∷ back)

sized_rest : (n : ℕ) (front back : List (List ℕ)) → sized n (front ++ back) ≡ sized n front ++ sized n back
sized_rest n front back = filter-append (λ s. length s == n) front back

module _ (c : List (List ℕ)) (f : List ℕ) (h : IsFacets c) (m : stands_in c f ≡ true) where
  abbrev pub less : List (List ℕ)
  less = drop_face c f

  cut : IsDrop c f
  cut = dropped c f h m

  with_facet : (n : ℕ) → faces_of_size c n ≡ sized n cut.front ++ cond (length f == n) (f ∷ sized n cut.back) (sized n cut.back)
  with_facet n = ap (sized n) cut.before ∙ sized_cut n cut.front cut.back f

  without_facet : (n : ℕ) → faces_of_size less n ≡ sized n cut.front ++ sized n cut.back
  without_facet n = ap (sized n) cut.after ∙ sized_rest n cut.front cut.back

  -- one face less of its size
  pub count_drop : (n : ℕ) → face_count c n ≡ face_count less n + one_if (length f == n)
  count_drop n = ap length (with_facet n) ∙ by (length f == n) ∙ ap (λ k. k + one_if (length f == n)) (sym (ap length (without_facet n)))
    where
      by : (b : Bool) → length (sized n cut.front ++ cond b (f ∷ sized n cut.back) (sized n cut.back)) ≡ length (sized n cut.front ++ sized n cut.back) + one_if b
      by true = omega (arith, length-append (sized n cut.front) (f ∷ sized n cut.back), length-append (sized n cut.front) (sized n cut.back))
      by false = omega arith

  columns_with : (n : ℕ) → (length f == n) ≡ true → map column (faces_of_size c n) ≡ map column (sized n cut.front) ++ column f ∷ map column (sized n cut.back)
  columns_with n e =
      ap (map column) (with_facet n ∙ ap (λ b. sized n cut.front ++ cond b (f ∷ sized n cut.back) (sized n cut.back)) e) ∙ map-append column (sized n cut.front) (f ∷ sized n cut.back)

  columns_without : (n : ℕ) → map column (faces_of_size less n) ≡ map column (sized n cut.front) ++ map column (sized n cut.back)
  columns_without n = ap (map column) (without_facet n) ∙ map-append column (sized n cut.front) (sized n cut.back)

  -- no rank rises
  pub rank_drop : (k : ℕ) → rank_at less k ≤ rank_at c k
  rank_drop zero = omega (arith, rank_zero c, rank_zero less)
  rank_drop (suc k) = by (length f == suc k + 1) refl
    where
      n : ℕ
      n = suc k + 1

      xs : List Column
      xs = map column (sized n cut.front)

      ys : List Column
      ys = map column (sized n cut.back)

      low : rank_at less (suc k) ≡ rank simplex_cmp (xs ++ ys)
      low = rank_above less (suc k) (omega arith) ∙ ap (rank simplex_cmp) (columns_without n)

      more : (b : Bool) (r : ℕ) → r ≤ cond b r (r + 1)
      more true r = omega arith
      more false r = omega arith

      by : (b : Bool) → (length f == n) ≡ b → rank_at less (suc k) ≤ rank_at c (suc k)
      by true e =
          let high : rank_at c (suc k) ≡ cond (in_span (xs ++ ys) (column f)) (rank simplex_cmp (xs ++ ys)) (rank simplex_cmp (xs ++ ys) + 1) =
          rank_above c (suc k) (omega arith) ∙ ap (rank simplex_cmp) (columns_with n e) ∙ rank_middle xs ys (column f) in
          let step = more (in_span (xs ++ ys) (column f)) (rank simplex_cmp (xs ++ ys)) in
          omega (arith, low, high, step)
      by false e =
          let same : faces_of_size c n ≡ faces_of_size less n = with_facet n ∙ ap (λ b. sized n cut.front ++ cond b (f ∷ sized n cut.back) (sized n cut.back)) e ∙ sym (without_facet n) in
          let high : rank_at c (suc k) ≡ rank_at less (suc k) = rank_above c (suc k) (omega arith) ∙ ap (λ l. rank simplex_cmp (map column l)) same ∙ sym (rank_above less (suc k) (omega arith)) in
          omega (arith, high)

  -- the rank falls by one where one face lies in no other of the size of the facet
  pub rank_falls : (s : List ℕ) (k : ℕ) → is_set s ≡ true → 0 < k → length f ≡ k + 1 → In s (column f) → partner c s ≡ Some f → rank_at less k + 1 ≡ rank_at c k
  rank_falls s k u l e i p = sym (high ∙ ap (λ b. cond b (rank simplex_cmp (xs ++ ys)) (rank simplex_cmp (xs ++ ys) + 1)) out ∙ ap (λ r. r + 1) (sym low))
    where
      n : ℕ
      n = k + 1

      xs : List Column
      xs = map column (sized n cut.front)

      ys : List Column
      ys = map column (sized n cut.back)

      low : rank_at less k ≡ rank simplex_cmp (xs ++ ys)
      low = rank_above less k l ∙ ap (rank simplex_cmp) (columns_without n)

      high : rank_at c k ≡ cond (in_span (xs ++ ys) (column f)) (rank simplex_cmp (xs ++ ys)) (rank simplex_cmp (xs ++ ys) + 1)
      high = rank_above c k l ∙ ap (rank simplex_cmp) (columns_with n (equal_from (length f) n e)) ∙ rank_middle xs ys (column f)

      -- a face without the facet has another column
      other : (b : List ℕ) → In b (faces c) → In b (cut.front ++ cut.back) → In s (column b) → b ≡ f
      other b j g q =
          let at = from_map (without b) s b q in
          let r = from_faces c b (sets_of c h.simplices) j in
          let cover : IsCover s b at.0 = record { has = at.1; rest = sym at.2 } in
          partner_only c s f b (sets_of c h.simplices) p
          (record { set = r.0; face = r.1; within = cover_over s b at.0 cover; another = λ w. cover_new s b at.0 cover (subst (λ x. In at.0 x) (sym w) at.1) })

      in_rest : (t : Column) → In t (xs ++ ys) → (b : List ℕ) × In b (cut.front ++ cut.back) × (t ≡ column b)
      in_rest t j = elim (in_either t xs ys j) [
        | inl g ↦ let q = from_map column t (sized n cut.front) g in (q.0, in_left q.0 cut.front cut.back (from_filter (λ x. length x == n) q.0 cut.front q.1).0, q.2)
        | inr g ↦ let q = from_map column t (sized n cut.back) g in (q.0, in_right q.0 cut.front cut.back (from_filter (λ x. length x == n) q.0 cut.back q.1).0, q.2)
      ]

      out : in_span (xs ++ ys) (column f) ≡ false
      out = not_in_span s (xs ++ ys) (column f) (is_member_from nat_list_cmp_total exact s (column f) i) (λ t j. false_from _ (λ g.
          let q = in_rest t j in
          let member : In s (column q.0) = subst (λ x. In s x) q.2 (is_member_at nat_list_cmp_total exact s t g) in
          let left : In q.0 (faces less) = subst (λ x. In q.0 x) (sym cut.after) q.1 in
          let whole : In q.0 (faces c) = elim (in_either q.0 cut.front cut.back q.1) [
            | inl w ↦ subst (λ x. In q.0 x) (sym cut.before) (in_left q.0 cut.front (f ∷ cut.back) w)
            | inr w ↦ subst (λ x. In q.0 x) (sym cut.before) (in_right q.0 cut.front (f ∷ cut.back) (later w))
          ] in
          gone (subst (λ x. In x (faces less)) (other q.0 whole q.1 member) left)))
        where
          gone : In f (faces less) → ⊥
          gone w = not_left c f h m w
