-- The flips of class 0: each facet, and the least label that is no vertex.
use Rattle.std.proofs.Common.{◌≡◌, ℕ, ◌+◌, ◌-◌, ◌≤◌, ◌<◌, leb, true, false, cond, ◌&&◌, List, [], ◌∷◌, map, length, Some, None, refl, sym, ap, ◌∙◌, subst, inl, inr, arith}
use Rattle.std.specs.Bool.{IsTrue}
use Rattle.std.specs.Prelude.{◌==◌, option_to_list}
use Rattle.std.specs.List.{list_all, filter_map, flat_map, cons_option}
use Rattle.std.proofs.lemmas.Bool.Decides.{nat_tests}
use Rattle.std.proofs.lemmas.Cmp.{nat_cmp_total, nat_list_cmp_total}
use Rattle.simplex.specs.Simplex.{is_simplex, is_label, is_within, label_limit, simplex_cmp, subsets, union, without}
use Rattle.simplex.proofs.Filled.{rising_of, labels_of}
use Rattle.simplex.proofs.InOrderLaws.{and_left, and_both, is_increasing-in_order}
use Rattle.simplex.proofs.Members.{In, first, later, cases, none, all_at, in_filter, from_filter, same_sets}
use Rattle.simplex.proofs.SimplexLaws.{is_increasing-filter, is_increasing-union, within_same, within_itself, within_in, in_within, in_union, from_union, from_without, disjoint_from, same_labels, above_at, rest_increasing}
use Rattle.simplex.proofs.Decided.{false_from, equal_at, equal_from}
use Rattle.facet_set.specs.Complex.{is_complex, is_face, faces, facets_with, verts}
use Rattle.facet_set.specs.Numbers.{size, is_pure, faces_of_size}
use Rattle.facet_set.specs.Flips.{allowed, ball, fresh, least_missing, option_of, options}
use Rattle.facet_set.proofs.ComplexLaws.{exact, is_set, face_at, face_from, from_faces, in_faces, sets_of}
use Rattle.facet_set.proofs.FlipLaws.{Parts, allowed_from, pure_at, in_ball, from_ball}
use Rattle.facet_set.proofs.FreshLaws.{missing_low, missing_out}
use Rattle.facet_set.proofs.OptionLaws.{in_verts, from_verts, given}
use Rattle.flip_rules.specs.Tallies.{flip_of}
use Rattle.flip_rules.proofs.ExchangeLaws.{off, filter_map_none}

-- ---- the least label that is no vertex
label_above : (x : ℕ) → is_label x ≡ true → 1 ≤ x
label_above x h = let k = and_left (leb 1 x) _ h in grind (arith, nat_tests)

option_is : (c : List (List ℕ)) (a b : List ℕ) → option_to_list (fresh c) ≡ b → option_of c 0 a ≡ cond (allowed c a b && (length b == 1)) (Some (flip_of a b)) None
option_is c a b e = ap (λ b. cond (allowed c a b && (length b == 1)) (Some (flip_of a b)) None) e

module _ (c : List (List ℕ)) (simple : list_all is_simplex c ≡ true) where
  some_fresh : (x : ℕ) → fresh c ≡ Some x → (IsTrue (is_label x)) × (In x (verts c) → ⊥)
  some_fresh x h =
      let g = given (leb (least_missing 1 (verts c)) label_limit) (least_missing 1 (verts c)) x h in
      let out = missing_out 1 (verts c) (is_increasing-in_order nat_cmp_total (flat_map (λ s. s) c))
      (λ v i. let r = from_verts c v i in label_above v (all_at is_label v r.0 (labels_of r.0 (all_at is_simplex r.0 c simple r.1)) r.2)) in
      let low = missing_low 1 (verts c) in
      let one : leb 1 (least_missing 1 (verts c)) ≡ true = grind (arith, nat_tests) in
      subst (λ y. (IsTrue (is_label y)) × (In y (verts c) → ⊥)) g.1 (and_both _ _ one g.0, out)

  pub fresh_label : (x : ℕ) → fresh c ≡ Some x → IsTrue (is_label x)
  fresh_label x h = (some_fresh x h).0

  -- ---- the facets are the faces of the greatest size
  facets_are : is_complex c ≡ true → is_pure c ≡ true → faces_of_size c (size c) ≡ c
  facets_are cx pure =
      same_sets nat_list_cmp_total exact (faces_of_size c (size c)) c
      (is_increasing-filter simplex_cmp (λ s. length s == size c) (faces c) (is_increasing-in_order nat_list_cmp_total (flat_map subsets c)))
      (and_left _ _ cx)
      (λ s i.
      let r = from_filter (λ s. length s == size c) s (faces c) i in
      let f = from_faces c s (sets_of c simple) r.0 in
      let t = face_at c s f.1 in
      subst (λ u. In u c) (sym (within_same s t.0 f.0 (set_at t.0 t.1) t.2 (equal_at (length s) (size c) r.1 ∙ sym (pure_at c t.0 pure t.1)))) t.1)
      (λ s i. in_filter (λ s. length s == size c) s (faces c) (in_faces c s (sets_of c simple) (set_at s i) (face_from c s s i (within_itself s))) (equal_from (length s) (size c) (pure_at c s pure i)))
    where
      set_at : (t : List ℕ) → In t c → is_set t ≡ true
      set_at t i = rising_of t (all_at is_simplex t c simple i)

  -- ---- a facet and a label that is no vertex
  module _ (cx : is_complex c ≡ true) (pure : is_pure c ≡ true) (large : 0 < size c) (x : ℕ) (new : In x (verts c) → ⊥) where
    only : (y : ℕ) → In y (x ∷ []) → y ≡ x
    only y i = elim (cases i) [ inl e ↦ e | inr n ↦ absurd (none y n) ]

    whole : (a : List ℕ) → is_set a ≡ true → union a (without (x ∷ []) x) ≡ a
    whole a h = same_labels (union a (without (x ∷ []) x)) a (is_increasing-union a (without (x ∷ []) x)) h
        (in_within (union a (without (x ∷ []) x)) a (λ y i. elim (from_union a (without (x ∷ []) x) y i) [
          | inl j ↦ j
          | inr j ↦ (let r = from_without (x ∷ []) x y j in absurd (r.1 (only y r.0)))
        ]))
        (in_within a (union a (without (x ∷ []) x)) (λ y i. in_union a (without (x ∷ []) x) y (inl i)))

    parts : (a : List ℕ) → In a c → Parts c a (x ∷ [])
    parts a i =
        record {
          pure = pure;
          sizes = (omega (arith, length_is, large), omega arith, omega (arith, length_is));
          apart = disjoint_from a (x ∷ []) (λ y j k. new (subst (λ z. In z (verts c)) (only y k) (in_verts c a y i j)));
          star = same_sets nat_list_cmp_total exact (facets_with c a) (ball a (x ∷ []))
              (is_increasing-filter simplex_cmp (is_within a) c (and_left _ _ cx))
              (is_increasing-in_order nat_list_cmp_total (map (λ y. union a (without (x ∷ []) y)) (x ∷ [])))
              (λ t j.
              let r = from_filter (is_within a) t c j in
              let same : a ≡ t = within_same a t (set_at a i) (set_at t r.0) r.1 (length_is ∙ sym (pure_at c t pure r.0)) in
              subst (λ u. In u (ball a (x ∷ []))) (whole a (set_at a i) ∙ same) (in_ball a (x ∷ []) x first))
              (λ t j.
              let r = from_ball a (x ∷ []) t j in
              let same : t ≡ a = r.2 ∙ ap (λ y. union a (without (x ∷ []) y)) (only r.0 r.1) ∙ whole a (set_at a i) in
              subst (λ u. In u (facets_with c a)) (sym same) (in_filter (is_within a) a c i (within_itself a)));
          absent = false_from (is_face c (x ∷ [])) (λ h. let r = face_at c (x ∷ []) h in new (in_verts c r.0 x r.1 (within_in (x ∷ []) r.0 x r.2 first)));
        }
      where
        set_at : (t : List ℕ) → In t c → is_set t ≡ true
        set_at t j = rising_of t (all_at is_simplex t c simple j)

        length_is : length a ≡ size c
        length_is = pure_at c a pure i

  -- all options of class 0
  pub subdivisions_are : is_complex c ≡ true → is_pure c ≡ true → 0 < size c → (x : ℕ) → fresh c ≡ Some x → map (λ a. flip_of a (x ∷ [])) c ≡ options c 0
  subdivisions_are cx pure large x h =
      sym (each c (λ a i. i)) ∙ ap (filter_map (option_of c 0)) (sym (facets_are cx pure) ∙ ap (faces_of_size c) (omega arith))
    where
      at : (a : List ℕ) → In a c → option_of c 0 a ≡ Some (flip_of a (x ∷ []))
      at a i =
          option_is c a (x ∷ []) (ap option_to_list h)
          ∙ ap (λ v. cond (v && true) (Some (flip_of a (x ∷ []))) None) (allowed_from c a (x ∷ []) (parts cx pure large x (some_fresh x h).1 a i))

      each : (l : List (List ℕ)) → ((a : List ℕ) → In a l → In a c) → filter_map (option_of c 0) l ≡ map (λ a. flip_of a (x ∷ [])) l
      each [] f = refl
      each (a ∷ l) f = λ i. cons_option (at a (f a first) i) (each l (λ b j. f b (later j)) i)

pub no_subdivisions : (c : List (List ℕ)) → fresh c ≡ None → [] ≡ options c 0
no_subdivisions c h = filter_map_none (option_of c 0) (faces_of_size c (size c - 0)) (λ a i. option_is c a [] (ap option_to_list h) ∙ off (allowed c a []) (Some (flip_of a [])))
