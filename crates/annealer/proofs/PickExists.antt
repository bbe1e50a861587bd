-- While a label is free, there is a pick, and a flip makes at most one vertex.
use Rattle.std.proofs.Common.{◌≡◌, ℕ, zero, suc, ◌+◌, ◌≤◌, ◌<◌, Bool, true, false, not, cond, ◌&&◌, List, [], ◌∷◌, map, length, refl, sym, ap, ◌∙◌, subst, ◌⊎◌, inl, inr, arith, leb, ltb, eqb, Some, None, append-nil}
use Rattle.std.specs.Prelude.{◌==◌, option_map, option_to_list}
use Rattle.std.specs.Option.{IsSome}
use Rattle.std.specs.List.{list_all, flat_map}
use Rattle.std.specs.Ordering.{nat_cmp}
use Rattle.std.specs.FinMap.{nat_cmp-IsAntisymmetric}
use Rattle.std.proofs.lemmas.Cmp.{nat_cmp_total, nat_list_cmp_total}
use Rattle.std.proofs.lemmas.Bool.Decides.{nat_tests}
use Rattle.simplex.specs.InOrder.{is_increasing, in_order}
use Rattle.simplex.specs.Simplex.{is_simplex, is_label, is_within, union, without, simplex_cmp, is_same, label_limit}
use Rattle.simplex.specs.declared.flip.Flip.{Flip}
use Rattle.simplex.proofs.Filled.{simplex_from, rising_of}
use Rattle.simplex.proofs.InOrderLaws.{and_left, and_right, and_both, is_increasing-in_order, in_order_again}
use Rattle.simplex.proofs.Members.{In, first, cases, none, all_at, in_filter, from_filter, same_sets}
use Rattle.simplex.proofs.SimplexLaws.{within_in, in_within, within_itself, in_union, from_union, in_without, from_without, disjoint_from, above_at, rest_increasing, is_increasing-filter, is_increasing-union, within_length}
use Rattle.facet_set.specs.Complex.{is_complex, is_face, is_maximal_in, facets_with, verts}
use Rattle.facet_set.specs.Numbers.{size, is_pure}
use Rattle.facet_set.specs.Flips.{ball, flip, fresh, least_missing, options}
use Rattle.facet_set.proofs.ComplexLaws.{exact, same_from, maximal_at, face_at}
use Rattle.facet_set.proofs.FlipLaws.{Parts, pure_at, in_ball, from_ball, allowed_from, from_flip}
use Rattle.facet_set.proofs.OptionFlips.{option_members_lem}
use Rattle.facet_set.proofs.OptionLaws.{in_verts, from_verts}
use Rattle.facet_set.proofs.FreshLaws.{missing_low, missing_out}
use Rattle.facet_set.proofs.VertexLaws.{verts_labels}
use Rattle.facet_set.proofs.Counting.{most-union}
use Rattle.annealer.specs.Laws.{AlwaysPicks}
use Rattle.annealer.specs.Walk.{first_filled, best_options, mixed_options, other_options, chosen, pick}
use Rattle.annealer.proofs.PickLaws.{chosen_some}

-- ---- vertices after a flip

module _ (c : List (List ℕ)) (a b : List ℕ) (p : Parts c a b) where
  old_facet : (x : ℕ) → In x b → In (union a (without b x)) c
  old_facet x i = (from_filter (is_within a) (union a (without b x)) c (subst (λ l. In (union a (without b x)) l) (sym p.star) (in_ball a b x i))).0

  old_vertex : (x y : ℕ) → In x b → In y a ⊎ (In y b × (y ≡ x → ⊥)) → In y (verts c)
  old_vertex x y i (inl j) = in_verts c (union a (without b x)) y (old_facet x i) (in_union a (without b x) y (inl j))
  old_vertex x y i (inr j) = in_verts c (union a (without b x)) y (old_facet x i) (in_union a (without b x) y (inr (in_without b x y j.0 j.1)))

  vertex_after : (x : ℕ) → In x b → (y : ℕ) → In y (verts (flip c a b)) → In y (union (x ∷ []) (verts c))
  vertex_after x i y j =
      let t = from_verts (flip c a b) y j in
      in_union (x ∷ []) (verts c) y (elim (from_flip c a b t.0 t.1) [
        | inl k ↦ inr (in_verts c t.0 y k.0 t.2)
        | inr k ↦
            let r = from_ball b a t.0 k in
            elim (from_union b (without a r.0) y (subst (λ u. In y u) r.2 t.2)) [
              | inl l ↦ in_b l (eqb y x) refl
              | inr l ↦ inr (old_vertex x y i (inl (from_without a r.0 y l).0))
            ]
      ])
    where
      in_b : In y b → (v : Bool) → eqb y x ≡ v → In y (x ∷ []) ⊎ In y (verts c)
      in_b l true e = inl (subst (λ z. In z (x ∷ [])) (sym same) first)
        where
          same : y ≡ x
          same = grind (arith, nat_tests)
      in_b l false e = inr (old_vertex x y i (inr (l, differ)))
        where
          differ : y ≡ x → ⊥
          differ f = grind (arith, nat_tests)

  some_label : (b : List ℕ) → 0 < length b → (x : ℕ) × In x b
  some_label [] h = absurd (omega arith)
  some_label (x ∷ b) h = (x, first)

  pub verts_after : length (verts (flip c a b)) ≤ length (verts c) + 1
  verts_after =
      let x = some_label b p.sizes.1 in
      let most = most-union (x.0 ∷ []) (verts c) in
      let less = within_length (verts (flip c a b)) (union (x.0 ∷ []) (verts c)) (is_increasing-in_order nat_cmp_total (flat_map (λ s. s) (flip c a b))) (is_increasing-union (x.0 ∷ []) (verts c)) (in_within (verts (flip c a b)) (union (x.0 ∷ []) (verts c)) (vertex_after x.0 x.1)) in
      bound most less
    where
      bound : {m n : ℕ} → m ≤ 1 + length (verts c) → n ≤ m → n ≤ length (verts c) + 1
      bound h k = omega arith

-- ---- the fresh label

missing_most : (n : ℕ) (vs : List ℕ) → least_missing n vs ≤ n + length vs
missing_most n [] = omega arith
missing_most n (v ∷ vs) = by (n == v) (missing_most (n + 1) vs)
  where
    by : (t : Bool) → least_missing (n + 1) vs ≤ n + 1 + length vs → cond t (least_missing (n + 1) vs) n ≤ n + suc (length vs)
    by true r = omega arith
    by false r = omega arith

-- ---- a facet can be divided

module _ (c : List (List ℕ)) (simple : list_all is_simplex c ≡ true) (cx : is_complex c ≡ true) (pure : is_pure c ≡ true) (some : 0 < size c) (room : length (verts c) < label_limit) where
  abbrev label : ℕ
  label = least_missing 1 (verts c)

  label_low : 1 ≤ label
  label_low = missing_low 1 (verts c)

  label_high : label ≤ label_limit
  label_high = let r = missing_most 1 (verts c) in high r
    where
      high : label ≤ 1 + length (verts c) → label ≤ label_limit
      high r = omega arith

  not_vertex : In label (verts c) → ⊥
  not_vertex = missing_out 1 (verts c) (is_increasing-in_order nat_cmp_total (flat_map (λ s. s) c)) (λ v i. low v (all_at is_label v (verts c) (verts_labels c simple) i))
    where
      low : (v : ℕ) → is_label v ≡ true → 1 ≤ v
      low v h = let k : leb 1 v ≡ true = and_left _ _ h in grind (arith, nat_tests)

  fresh_is : fresh c ≡ Some label
  fresh_is = ap (λ t. cond t (Some label) None) high
    where
      high : leb label label_limit ≡ true
      high = let h = label_high in grind (arith, nat_tests)

  abbrev one : List ℕ
  one = label ∷ []

  one_simplex : is_simplex one ≡ true
  one_simplex = simplex_from one short (and_both _ _ is_one refl) refl
    where
      short : length one ≤ 12
      short = omega arith

      low : leb 1 label ≡ true
      low = let h = label_low in grind (arith, nat_tests)

      high : leb label label_limit ≡ true
      high = let h = label_high in grind (arith, nat_tests)

      is_one : is_label label ≡ true
      is_one = and_both _ _ low high

  only_one : (x : ℕ) → In x one → x ≡ label
  only_one x i = elim (cases i) [ inl e ↦ e | inr j ↦ absurd (none x j) ]

  without_is : (x : ℕ) → In x one → without one x ≡ []
  without_is x i = empty (without one x) (λ y j. let r = from_without one x y j in r.1 (only_one y r.0 ∙ sym (only_one x i)))
    where
      empty : (xs : List ℕ) → ((y : ℕ) → In y xs → ⊥) → xs ≡ []
      empty [] f = refl
      empty (y ∷ xs) f = absurd (f y first)

  module _ (s : List ℕ) (i : In s c) where
    rising : is_increasing nat_cmp s ≡ true
    rising = rising_of s (all_at is_simplex s c simple i)

    whole : (x : ℕ) → In x one → union s (without one x) ≡ s
    whole x j = ap (union s) (without_is x j) ∙ ap (in_order nat_cmp) (append-nil s) ∙ in_order_again nat_cmp_total nat_cmp-IsAntisymmetric s rising

    alone : (t : List ℕ) → In t c → is_within s t ≡ true → s ≡ t
    alone t j w = same_from s t (by (is_within s t) (is_same s t) w (maximal_at c s t (all_at (is_maximal_in c) s c (and_right (is_increasing simplex_cmp c) _ cx) i) j))
      where
        by : (v u : Bool) → v ≡ true → (v && not u) ≡ false → u ≡ true
        by true true h e = refl
        by true false h e = cc
        by false u h e = cc

    star_is : facets_with c s ≡ ball s one
    star_is =
        same_sets nat_list_cmp_total exact (facets_with c s) (ball s one)
        (is_increasing-filter simplex_cmp (is_within s) c (and_left _ _ cx))
        (is_increasing-in_order nat_list_cmp_total (map (λ x. union s (without one x)) one))
        (λ t j. let r = from_filter (is_within s) t c j in subst (λ u. In u (ball s one)) (whole label first ∙ alone t r.0 r.1) (in_ball s one label first))
        (λ t j. let r = from_ball s one t j in subst (λ u. In u (facets_with c s)) (sym (r.2 ∙ whole r.0 r.1)) (in_filter (is_within s) s c i (within_itself s)))

    absent_is : is_face c one ≡ false
    absent_is = by (is_face c one) refl
      where
        by : (v : Bool) → is_face c one ≡ v → v ≡ false
        by true e = let r = face_at c one e in absurd (not_vertex (in_verts c r.0 label r.1 (within_in one r.0 label r.2 first)))
        by false e = refl

    parts : Parts c s one
    parts = record {
      pure = pure;
      sizes = (long, little, sum);
      apart = disjoint_from s one (λ x j k. not_vertex (subst (λ y. In y (verts c)) (only_one x k) (in_verts c s x i j)));
      star = star_is;
      absent = absent_is;
    }
      where
        len : length s ≡ size c
        len = pure_at c s pure i

        long : 0 < length s
        long = let e = len in omega (arith, e, some)

        little : 0 < length one
        little = omega arith

        sum : length s + length one ≡ size c + 1
        sum = let e = len in omega (arith, e)

    abbrev division : Flip
    division = record { a = s; b = one }

    is_option : In division (options c 0)
    is_option = (option_members_lem c 0 division simple (all_at is_simplex s c simple i) one_simplex).1 (allowed_from c s one parts, refl, λ e. sym (ap option_to_list fresh_is))

  some_option : options c 0 ≡ [] → ⊥
  some_option e = let s = facet c pure in none (division s.0 s.1) (subst (λ l. In (division s.0 s.1) l) e (is_option s.0 s.1))
    where
      facet : (d : List (List ℕ)) → is_pure d ≡ true → (s : List ℕ) × In s d
      facet [] h = cc
      facet (s ∷ d) h = (s, first)

  some_other : other_options c ≡ [] → ⊥
  some_other = by (mixed_options c) (options c 0) some_option
    where
      by : (xs ys : List Flip) → (ys ≡ [] → ⊥) → first_filled (xs ∷ ys ∷ []) ≡ [] → ⊥
      by [] [] f e = f refl
      by [] (y ∷ ys) f e = cc
      by (x ∷ xs) ys f e = cc

  some_of : (ms : List Flip) (w k : ℕ) → (ms ≡ [] → ⊥) → IsSome (option_map {U = Flip × ℕ} (λ m. (m, k)) (chosen ms w))
  some_of ms w k f = let r = chosen_some ms w f in subst (λ o. IsSome (option_map {U = Flip × ℕ} (λ m. (m, k)) o)) (sym r.1) refl

  some_pick : (heat w : ℕ) → IsSome (pick c heat w)
  some_pick zero w = by (best_options c) (ltb 0 (length (best_options c))) refl
    where
      by : (xs : List Flip) (v : Bool) → ltb 0 (length xs) ≡ v
          → IsSome (option_map {U = Flip × ℕ} (λ m. (m, (cond {A = List Flip × ℕ} v (xs, 0) (other_options c, Rattle.std.proofs.Common.◌-◌ (Rattle.std.proofs.Common.◌*◌ 5 (size c)) 1)).1)) (chosen (cond {A = List Flip × ℕ} v (xs, 0) (other_options c, Rattle.std.proofs.Common.◌-◌ (Rattle.std.proofs.Common.◌*◌ 5 (size c)) 1)).0 w))
      by [] true e = cc
      by (x ∷ xs) true e = some_of (x ∷ xs) w 0 (λ f. cc)
      by xs false e = some_of (other_options c) w _ some_other
  some_pick (suc heat) w = some_of (other_options c) w heat some_other

pub always_picks_lem : AlwaysPicks
always_picks_lem c heat w simple cx pure some room = some_pick c simple cx pure some room heat w
