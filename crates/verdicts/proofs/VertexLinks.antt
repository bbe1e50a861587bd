-- The link of a vertex of a pure complex: pure of one label less a facet, and with no other vertices.
use Rattle.std.proofs.Common.{◌≡◌, ℕ, ◌+◌, ◌≤◌, true, false, not, cond, ◌&&◌, ◌||◌, List, [], ◌∷◌, length, refl, sym, ap, ◌∙◌, subst, inl, inr, arith, leb}
use Rattle.std.specs.Prelude.{◌==◌}
use Rattle.std.specs.Ordering.{nat_cmp}
use Rattle.std.specs.List.{list_all, filter, flat_map}
use Rattle.std.proofs.lemmas.Cmp.{nat_cmp_total}
use Rattle.std.proofs.lemmas.Bool.Decides.{nat_tests}
use Rattle.simplex.specs.Simplex.{has, is_label, is_simplex, is_within, is_disjoint, minus, without, union, label_limit}
use Rattle.simplex.proofs.Filled.{simplex_from, short_of, labels_of, rising_of}
use Rattle.simplex.proofs.InOrderLaws.{and_left, and_right, and_both, is_increasing-in_order}
use Rattle.simplex.proofs.Members.{In, first, cases, none, all_at, all_from, in_filter, from_filter, in_map, from_map}
use Rattle.simplex.proofs.SimplexLaws.{in_within, within_in, within_itself, within_length, is_increasing-filter}
use Rattle.facet_set.specs.Complex.{generated, is_complex, is_face, faces, facets_with, verts}
use Rattle.facet_set.specs.Numbers.{is_pure, size}
use Rattle.facet_set.specs.Parts.{link_pieces}
use Rattle.facet_set.proofs.ComplexLaws.{is_set, from_generated, is_complex-generated, is_face-generated, face_at, face_from, sets_of}
use Rattle.facet_set.proofs.FlipLaws.{length-without, pure_at, pure_from}
use Rattle.facet_set.proofs.OptionLaws.{in_verts, from_verts}
use Rattle.facet_set.proofs.VertexLaws.{verts_labels}
use Rattle.facet_set.proofs.LinkLaws.{link_is}
use Rattle.flip_certificate.specs.Lines.{is_start}
use Rattle.flip_certificate.specs.Valid.{is_pure_from, vertex_link}
use Rattle.verdicts.specs.Ready.{IsReady}

swapped : (x v : ℕ) → ((x == v) || false) ≡ (v == x)
swapped x v = grind (arith, nat_tests)

minus_one : (s : List ℕ) (v : ℕ) → minus s (v ∷ []) ≡ without s v
minus_one [] v = refl
minus_one (x ∷ s) v =
    ap (λ t. cond (not t) (x ∷ minus s (v ∷ [])) (minus s (v ∷ []))) (swapped x v)
    ∙ ap (λ l. cond (not (v == x)) (x ∷ l) l) (minus_one s v)

module _ (c : List (List ℕ)) (v : ℕ) (start : is_start c ≡ true) (whole : is_pure_from 2 c ≡ true) (i : In v (verts c)) where
  simple : list_all is_simplex c ≡ true
  simple = and_left _ _ start

  pure : is_pure c ≡ true
  pure = and_left _ _ whole

  large : 2 ≤ size c
  large = above (and_right (is_pure c) _ whole)
    where
      above : leb 2 (size c) ≡ true → 2 ≤ size c
      above e = grind (arith, nat_tests)

  -- the facets of the link come from those of the complex
  from_vertex_link : (t : List ℕ) → In t (vertex_link c v) → (s : List ℕ) × In s c × In v s × (t ≡ minus s (v ∷ []))
  from_vertex_link t j =
      let q = from_generated t (link_pieces c (v ∷ [])) (subst (λ l. In t l) (sym (link_is c (v ∷ []) (sets_of c simple))) j) in
      let r = from_map (λ s. minus s (v ∷ [])) t (facets_with c (v ∷ [])) q.0 in
      let w = from_filter (is_within (v ∷ [])) r.0 c r.1 in
      (r.0, w.0, within_in (v ∷ []) r.0 v w.1 first, r.2)

  -- and there is one
  some_facet : (t : List ℕ) × In t (vertex_link c v)
  some_facet =
      let s = from_verts c v i in
      let w = in_within (v ∷ []) s.0 (λ x j. elim (cases j) [ inl e ↦ subst (λ y. In y s.0) (sym e) s.2 | inr k ↦ absurd (none x k) ]) in
      let piece = in_map (λ s. minus s (v ∷ [])) s.0 (facets_with c (v ∷ [])) (in_filter (is_within (v ∷ [])) s.0 c s.1 w) in
      let face = face_from (link_pieces c (v ∷ [])) (minus s.0 (v ∷ [])) (minus s.0 (v ∷ [])) piece (within_itself (minus s.0 (v ∷ []))) in
      let r = face_at (generated (link_pieces c (v ∷ []))) (minus s.0 (v ∷ [])) (is_face-generated (link_pieces c (v ∷ [])) (minus s.0 (v ∷ [])) pieces_set ∙ face) in
      (r.0, subst (λ l. In r.0 l) (link_is c (v ∷ []) (sets_of c simple)) r.1)
    where
      pieces_set : list_all is_set (link_pieces c (v ∷ [])) ≡ true
      pieces_set = all_from is_set (link_pieces c (v ∷ [])) (λ t j.
          let r = from_map (λ s. minus s (v ∷ [])) t (facets_with c (v ∷ [])) j in
          let s : is_simplex r.0 ≡ true = all_at is_simplex r.0 c simple (from_filter (is_within (v ∷ [])) r.0 c r.1).0 in
          ap is_set r.2 ∙ is_increasing-filter nat_cmp (λ x. not (has (v ∷ []) x)) r.0 (rising_of r.0 s))

  one_less : (t : List ℕ) → In t (vertex_link c v) → length t + 1 ≡ size c
  one_less t j =
      let r = from_vertex_link t j in
      ap (λ l. length l + 1) (r.3 ∙ minus_one r.0 v)
      ∙ length-without v r.0 (rising_of r.0 (all_at is_simplex r.0 c simple r.1)) r.2
      ∙ pure_at c r.0 pure r.1

  link_simple : list_all is_simplex (vertex_link c v) ≡ true
  link_simple = all_from is_simplex (vertex_link c v) (λ t j.
      let r = from_vertex_link t j in
      ap is_simplex r.3 ∙ less r.0 (all_at is_simplex r.0 c simple r.1))
    where
      less : (s : List ℕ) → is_simplex s ≡ true → is_simplex (minus s (v ∷ [])) ≡ true
      less s k =
          let up = is_increasing-filter nat_cmp (λ x. not (has (v ∷ []) x)) s (rising_of s k) in
          let in_s = λ (x : ℕ) (l : In x (minus s (v ∷ []))). (from_filter (λ x. not (has (v ∷ []) x)) x s l).0 in
          let n = within_length (minus s (v ∷ [])) s up (rising_of s k) (in_within (minus s (v ∷ [])) s in_s) in
          simplex_from (minus s (v ∷ [])) (short n (short_of s k)) (all_from is_label (minus s (v ∷ [])) (λ x l. all_at is_label x s (labels_of s k) (in_s x l))) up
        where
          short : {m n : ℕ} → m ≤ n → n ≤ 12 → m ≤ 12
          short a b = omega arith

  link_complex : is_complex (vertex_link c v) ≡ true
  link_complex = is_complex-generated (filter (λ b. is_disjoint b (v ∷ []) && is_face c (union (v ∷ []) b)) (faces c))

  link_pure : is_pure (vertex_link c v) ≡ true
  link_pure =
      let f = some_facet in
      pure_from (vertex_link c v) (length f.0) f.0 f.1 (λ t j. let p = one_less t j in let q = one_less f.0 f.1 in omega (arith, p, q))

  link_size : 1 ≤ size (vertex_link c v)
  link_size =
      let f = some_facet in
      let e = pure_at (vertex_link c v) f.0 link_pure f.1 in
      let k = one_less f.0 f.1 in
      let l = large in
      omega (arith, e, k, l)

  link_verts : length (verts (vertex_link c v)) ≤ length (verts c)
  link_verts =
      within_length (verts (vertex_link c v)) (verts c) (is_increasing-in_order nat_cmp_total (flat_map (λ s. s) (vertex_link c v))) (is_increasing-in_order nat_cmp_total (flat_map (λ s. s) c))
      (in_within (verts (vertex_link c v)) (verts c) (λ x j.
      let t = from_verts (vertex_link c v) x j in
      let r = from_vertex_link t.0 t.1 in
      in_verts c r.0 x r.1 (from_filter (λ y. not (has (v ∷ []) y)) x r.0 (subst (λ u. In x u) r.3 t.2)).0))

  pub link_start : is_start (vertex_link c v) ≡ true
  link_start = and_both _ _ link_simple link_complex

  -- a walk can begin with the link
  pub link_ready : (budget : ℕ) → length (verts c) + budget ≤ label_limit → IsReady 1 (vertex_link c v) budget
  link_ready budget r = record {
    start = link_start;
    pure = and_both _ _ link_pure (one link_size);
    room = room link_verts;
  }
    where
      one : 1 ≤ size (vertex_link c v) → leb 1 (size (vertex_link c v)) ≡ true
      one e = grind (arith, nat_tests)

      room : length (verts (vertex_link c v)) ≤ length (verts c) → length (verts (vertex_link c v)) + budget ≤ label_limit
      room k = omega (arith, k, r)

  pub vertex_label : is_label v ≡ true
  vertex_label = all_at is_label v (verts c) (verts_labels c simple) i

  pub vertex_face : is_face c (v ∷ []) ≡ true
  vertex_face =
      let s = from_verts c v i in
      face_from c (v ∷ []) s.0 s.1 (in_within (v ∷ []) s.0 (λ x j. elim (cases j) [ inl e ↦ subst (λ y. In y s.0) (sym e) s.2 | inr k ↦ absurd (none x k) ]))
