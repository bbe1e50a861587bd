-- The faces of a complex that contain a set whose facets form a ball.
use Rattle.std.proofs.Common.{◌≡◌, ℕ, ◌+◌, ◌<◌, true, false, not, List, map, length, neg_ℤ, refl, sym, ap, ◌∙◌, subst, ◌⊎◌, inl, inr, arith}
use Rattle.std.specs.Ordering.{nat_cmp}
use Rattle.std.specs.List.{list_all, filter}
use Rattle.std.proofs.lemmas.Cmp.{nat_list_cmp_total}
use Rattle.simplex.specs.InOrder.{is_increasing}
use Rattle.simplex.specs.Simplex.{has, is_disjoint, is_within, minus, simplex_cmp, union, without}
use Rattle.simplex.proofs.Decided.{false_at, false_from, not_true}
use Rattle.simplex.proofs.InOrderLaws.{is_increasing-in_order}
use Rattle.simplex.proofs.Members.{In, in_filter, from_filter, in_map, from_map, same_sets}
use Rattle.simplex.proofs.SimplexLaws.{has_at, has_from, within_in, in_within, within_length, within_trans, same_labels, label_beside, in_union, from_union, in_without, from_without, disjoint_at, disjoint_from, is_increasing-filter, is_increasing-union}
use Rattle.facet_set.specs.Complex.{simplices, faces}
use Rattle.facet_set.proofs.ComplexLaws.{exact, is_set, in_simplices, from_simplices, from_subsets, in_subsets, in_faces, from_faces, face_at, face_from}
use Rattle.facet_set.proofs.FlipLaws.{from_ball, in_ball, length-union}
use Rattle.face_vectors.specs.Vectors.{signed}
use Rattle.face_vectors.proofs.SignLaws.{signed-neg}
use Rattle.invariants.proofs.Sums.{sign, weigh, proper, in_proper, from_proper, proper_short, once-map, once-proper, weigh-simplices, weigh-proper, weigh-longer, sign-add}
use Rattle.invariants.proofs.Swaps.{Star, from_star, in_star, none_with}

-- a set with a, of labels of a and b, that has not all of b
pub record IsBetween (a b s : List ℕ) : Type 0 where
  pub set : is_set s ≡ true
  pub above : is_within a s ≡ true
  pub inside : (x : ℕ) → In x s → In x a ⊎ In x b
  pub open_ : is_within b s ≡ true → ⊥

module _ (a b : List ℕ) (sa : is_set a ≡ true) (sb : is_set b ≡ true) (apart : is_disjoint a b ≡ true) where
  abbrev unions : List (List ℕ)
  unions = map (union a) (proper b)

  part : (t : List ℕ) → In t (proper b) → (is_set t ≡ true) × (is_within t b ≡ true)
  part t i = from_subsets b t sb (from_proper b t i)

  part_apart : (t : List ℕ) → In t (proper b) → is_disjoint a t ≡ true
  part_apart t i = disjoint_from a t (λ x j k. disjoint_at a b x apart j (within_in t b x (part t i).1 k))

  from_unions : (s : List ℕ) → In s unions → IsBetween a b s
  from_unions s i =
      let r = from_map (union a) s (proper b) i in
      let p = part r.0 r.1 in
      subst (IsBetween a b) (sym r.2) (record {
        set = is_increasing-union a r.0;
        above = in_within a (union a r.0) (λ x j. in_union a r.0 x (inl j));
        inside = λ x j. elim (from_union a r.0 x j) [ inl k ↦ inl k | inr k ↦ inr (within_in r.0 b x p.1 k) ];
        open_ = λ e.
            let whole : is_within b r.0 ≡ true = in_within b r.0 (λ x j. elim (from_union a r.0 x (within_in b (union a r.0) x e j)) [ inl k ↦ absurd (disjoint_at a b x apart k j) | inr k ↦ k ]) in
            let m = within_length b r.0 sb p.0 whole in
            let l = proper_short b r.0 r.1 in
            omega arith;
      })

  in_unions : (s : List ℕ) → IsBetween a b s → In s unions
  in_unions s w =
      let t = minus s a in
      let st : is_set t ≡ true = is_increasing-filter nat_cmp (λ x. not (has a x)) s w.set in
      let tb : is_within t b ≡ true = in_within t b (λ x j. let q = from_filter (λ x. not (has a x)) x s j in
      elim (w.inside x q.0) [ inl k ↦ absurd (false_at (has a x) (not_true (has a x) q.1) (has_from a x k)) | inr k ↦ k ]) in
      let same : union a t ≡ s = same_labels (union a t) s (is_increasing-union a t) w.set
      (in_within (union a t) s (λ x j. elim (from_union a t x j) [ inl k ↦ within_in a s x w.above k | inr k ↦ (from_filter (λ x. not (has a x)) x s k).0 ]))
      (in_within s (union a t) (λ x j. in_union a t x (elim (has a x) as (λ v. has a x ≡ v → In x a ⊎ In x t) [
        | true ↦ λ e. inl (has_at a x e)
        | false ↦ λ e. inr (in_filter (λ x. not (has a x)) x s j (ap not e))
      ] refl))) in
      let short : t ≡ b → ⊥ = λ e. w.open_ (in_within b s (λ x j. (from_filter (λ x. not (has a x)) x s (subst (λ u. In x u) (sym e) j)).0)) in
      elim (in_proper b t (in_subsets b t sb st tb)) [
        | inl e ↦ absurd (short e)
        | inr i ↦ subst (λ u. In u unions) same (in_map (union a) t (proper b) i)
      ]

  once_unions : (t u : List ℕ) → In t (proper b) → In u (proper b) → union a t ≡ union a u → t ≡ u
  once_unions t u i j e = same_labels t u (part t i).0 (part u j).0 (one t u i j e) (one u t j i (sym e))
    where
      one : (t u : List ℕ) → In t (proper b) → In u (proper b) → union a t ≡ union a u → is_within t u ≡ true
      one t u i j e = in_within t u (λ x k. elim (from_union a u x (subst (λ v. In x v) e (in_union a t x (inr k)))) [
        | inl m ↦ absurd (disjoint_at a t x (part_apart t i) m k)
        | inr m ↦ m
      ])

  pub weigh-between : (l : List (List ℕ)) → 0 < length b → is_increasing simplex_cmp l ≡ true → ((s : List ℕ) → In s l → IsBetween a b s) → ((s : List ℕ) → IsBetween a b s → In s l) → weigh l ≡ neg_ℤ (sign (length a + length b))
  weigh-between l some up f g =
      let is : l ≡ simplices unions = same_sets nat_list_cmp_total exact l (simplices unions) up (is_increasing-in_order nat_list_cmp_total unions)
      (λ s i. in_simplices s unions (in_unions s (f s i))) (λ s i. g s (from_unions s (from_simplices s unions i))) in
      ap weigh is ∙ weigh-simplices unions (once-map (union a) (proper b) (once-proper b sb) once_unions)
      ∙ weigh-longer (union a) (length a) (proper b) (λ t i. length-union a t sa (part t i).0 (part_apart t i))
      ∙ ap (signed (length a)) (weigh-proper b some) ∙ signed-neg (length a) (sign (length b)) ∙ ap neg_ℤ (sym (sign-add (length a) (length b)))

-- ---- the faces with a, where its facets form a ball
module _ (c : List (List ℕ)) (a b : List ℕ) (sets : list_all is_set c ≡ true) (w : Star c a b) where
  pub face_between : (s : List ℕ) → In s (faces c) → is_within a s ≡ true → IsBetween a b s
  face_between s i e =
      let q = from_faces c s sets i in
      let t = face_at c s q.1 in
      let r = from_ball a b t.0 (from_star c a b w t.0 t.1 (within_trans a s t.0 e t.2)) in
      record {
        set = q.0;
        above = e;
        inside = λ x j. elim (from_union a (without b r.0) x (subst (λ u. In x u) r.2 (within_in s t.0 x t.2 j))) [ inl k ↦ inl k | inr k ↦ inr (from_without b r.0 x k).0 ];
        open_ = λ o. none_with c a b w t.0 t.1 (within_trans b s t.0 o t.2);
      }

  pub between_face : (s : List ℕ) → IsBetween a b s → In s (faces c)
  between_face s h =
      let x = label_beside b s (false_from (is_within b s) h.open_) in
      let t = union a (without b x.0) in
      in_faces c s sets h.set (face_from c s t (in_star c a b w t (in_ball a b x.0 x.1)) (in_within s t (λ y j. in_union a (without b x.0) y (elim (h.inside y j) [
        | inl k ↦ inl k
        | inr k ↦ inr (in_without b x.0 y k (λ e. x.2 (subst (λ z. In z s) e j)))
      ]))))

  pub weigh-with : (up : is_increasing simplex_cmp (faces c) ≡ true) → weigh (filter (is_within a) (faces c)) ≡ neg_ℤ (sign (length a + length b))
  weigh-with up =
      weigh-between a b w.a_set w.b_set w.apart (filter (is_within a) (faces c)) w.some (is_increasing-filter simplex_cmp (is_within a) (faces c) up)
      (λ s i. let r = from_filter (is_within a) s (faces c) i in face_between s r.0 r.1)
      (λ s h. in_filter (is_within a) s (faces c) (between_face s h) h.above)
