-- What a flip does to faces.
use Rattle.std.proofs.Common.{◌≡◌, ℕ, suc, ◌+◌, Bool, true, false, not, cond, ◌&&◌, ◌||◌, List, [], ◌∷◌, map, length, refl, sym, ap, ◌∙◌, subst, ◌⊎◌, inl, inr, arith}
use Rattle.std.specs.Ordering.{nat_cmp}
use Rattle.std.specs.List.{list_all, filter}
use Rattle.std.specs.FinMap.{nat_cmp-IsAntisymmetric}
use Rattle.std.proofs.lemmas.Cmp.{nat_cmp_total, nat_list_cmp_total}
use Rattle.simplex.specs.declared.flip.Flip.{Flip}
use Rattle.simplex.specs.InOrder.{is_increasing}
use Rattle.simplex.specs.Flip.{inverse}
use Rattle.simplex.specs.Simplex.{has, is_label, is_simplex, is_within, is_disjoint, minus, union, without, simplex_cmp}
use Rattle.simplex.proofs.Decided.{agree, false_from, false_at, not_true, not_from, or_left, or_right, or_cases}
use Rattle.simplex.proofs.Filled.{labels_of, rising_of, simplex_from}
use Rattle.simplex.proofs.InOrderLaws.{and_left, and_right, and_both, is_increasing-in_order}
use Rattle.simplex.proofs.Members.{In, first, later, cases, none, all_at, all_from, in_filter, from_filter, in_map, from_map, same_sets}
use Rattle.simplex.proofs.SimplexLaws.{has_at, has_from, label_beside, within_in, in_within, within_trans, in_union, from_union, in_without, from_without, is_increasing-filter, is_increasing-union, disjoint_at, above_at, rest_increasing}
use Rattle.facet_set.specs.Complex.{is_complex, is_face, facets_with, verts, simplices}
use Rattle.facet_set.specs.Flips.{allowed, ball, flip, link_vertices}
use Rattle.facet_set.specs.Numbers.{size, degree}
use Rattle.facet_set.specs.Star.{lies_in_join}
use Rattle.facet_set.proofs.ComplexLaws.{exact, is_set, face_at, face_from, sets_of, from_simplices, in_simplices, verts_increase}
use Rattle.facet_set.proofs.Counting.{count-put}
use Rattle.facet_set.proofs.FlipLaws.{Parts, parts_of, from_ball, in_ball, in_flip, from_flip, flips_back_lem, complex_after, pure_at, small}
use Rattle.facet_set.proofs.OptionLaws.{in_verts, from_verts}
use Rattle.flip_plans.specs.Turns.{turned, DegreesTurn, FacesInJoin, IsAllowed, LinksTurn, OutsideStays, SizesStay}

module _ (a b : List ℕ) where
  pub in_join : (s : List ℕ) → ((x : ℕ) → In x s → In x a ⊎ In x b) → lies_in_join a b s ≡ true
  in_join s f = all_from (λ x. has a x || has b x) s (λ x i. elim (f x i) [ inl j ↦ or_left (has a x) _ (has_from a x j) | inr j ↦ or_right (has a x) _ (has_from b x j) ])

  pub from_join : (s : List ℕ) (x : ℕ) → lies_in_join a b s ≡ true → In x s → In x a ⊎ In x b
  from_join s x h i = elim (or_cases (has a x) (has b x) (all_at (λ x. has a x || has b x) x s h i)) [ inl e ↦ inl (has_at a x e) | inr e ↦ inr (has_at b x e) ]

  join_below : (s t : List ℕ) → is_within s t ≡ true → lies_in_join a b t ≡ true → lies_in_join a b s ≡ true
  join_below s t w h = in_join s (λ x i. from_join t x h (within_in s t x w i))

  ball_in_join : (t : List ℕ) → In t (ball a b) → lies_in_join a b t ≡ true
  ball_in_join t i =
      let r = from_ball a b t i in
      in_join t (λ x j. elim (from_union a (without b r.0) x (subst (λ u. In x u) r.2 j)) [ inl k ↦ inl k | inr k ↦ inr (from_without b r.0 x k).0 ])

  other_in_join : (t : List ℕ) → In t (ball b a) → lies_in_join a b t ≡ true
  other_in_join t i =
      let r = from_ball b a t i in
      in_join t (λ x j. elim (from_union b (without a r.0) x (subst (λ u. In x u) r.2 j)) [ inl k ↦ inr k | inr k ↦ inl (from_without a r.0 x k).0 ])

-- complexes in which a set has the same facets
face_there : (c d : List (List ℕ)) (s : List ℕ) → facets_with c s ≡ facets_with d s → is_face c s ≡ true → is_face d s ≡ true
face_there c d s e h =
    let t = face_at c s h in
    let r = from_filter (is_within s) t.0 d (subst (λ l. In t.0 l) e (in_filter (is_within s) t.0 c t.1 t.2)) in
    face_from d s t.0 r.0 r.1

same_face : (c d : List (List ℕ)) (s : List ℕ) → facets_with c s ≡ facets_with d s → is_face c s ≡ is_face d s
same_face c d s e = agree _ _ (face_there c d s e) (face_there d c s (sym e))

-- ---- link vertices by members
pub in_link : (c : List (List ℕ)) (s : List ℕ) (x : ℕ) → (In x s → ⊥) → is_face c (union s (x ∷ [])) ≡ true → In x (link_vertices c s)
in_link c s x out f =
    let t = face_at c (union s (x ∷ [])) f in
    let w : is_within s t.0 ≡ true = in_within s t.0 (λ y i. within_in (union s (x ∷ [])) t.0 y t.2 (in_union s (x ∷ []) y (inl i))) in
    in_filter (λ y. not (has s y)) x (verts (facets_with c s))
    (in_verts (facets_with c s) t.0 x (in_filter (is_within s) t.0 c t.1 w) (within_in (union s (x ∷ [])) t.0 x t.2 (in_union s (x ∷ []) x (inr first))))
    (not_from (has s x) (λ h. out (has_at s x h)))

pub from_link : (c : List (List ℕ)) (s : List ℕ) (x : ℕ) → In x (link_vertices c s) → (In x s → ⊥) × (is_face c (union s (x ∷ [])) ≡ true)
from_link c s x i =
    let r = from_filter (λ y. not (has s y)) x (verts (facets_with c s)) i in
    let t = from_verts (facets_with c s) x r.0 in
    let q = from_filter (is_within s) t.0 c t.1 in (
      λ j. false_at (has s x) (not_true (has s x) r.1) (has_from s x j),
      face_from c (union s (x ∷ [])) t.0 q.0 (in_within (union s (x ∷ [])) t.0 (λ y j. elim (from_union s (x ∷ []) y j) [
        | inl k ↦ within_in s t.0 y q.1 k
        | inr k ↦ elim (cases k) [ inl e ↦ subst (λ z. In z t.0) (sym e) t.2 | inr n ↦ absurd (none y n) ]
      ])),
    )

pub link_rising : (c : List (List ℕ)) (s : List ℕ) → is_set (link_vertices c s) ≡ true
link_rising c s = is_increasing-filter nat_cmp (λ y. not (has s y)) (verts (facets_with c s)) (verts_increase (facets_with c s))

-- ---- degrees
pieces_differ : (a b : List ℕ) (x y : ℕ) → is_disjoint a b ≡ true → In x b → (x ≡ y → ⊥) → union a (without b x) ≡ union a (without b y) → ⊥
pieces_differ a b x y d i f e =
    let q : In x (union a (without b y)) = in_union a (without b y) x (inr (in_without b y x i f)) in
    elim (from_union a (without b x) x (subst (λ t. In x t) (sym e) q)) [
      | inl j ↦ disjoint_at a b x d j i
      | inr j ↦ (from_without b x x j).1 refl
    ]

abbrev pieces : List ℕ → List ℕ → List ℕ → List (List ℕ)
pieces a b s = simplices (map (λ x. union a (without b x)) s)

count_pieces : (a b s : List ℕ) → is_set s ≡ true → is_disjoint a b ≡ true → ((x : ℕ) → In x s → In x b) → length (pieces a b s) ≡ length s
count_pieces a b [] h d f = refl
count_pieces a b (x ∷ s) h d f =
    count-put nat_list_cmp_total exact (union a (without b x)) (pieces a b s) (λ i.
    let r = from_map (λ x. union a (without b x)) (union a (without b x)) s (from_simplices _ (map (λ x. union a (without b x)) s) i) in
    let above = above_at x s r.0 h r.1 in
    pieces_differ a b x r.0 d (f x first) (λ e. omega arith) r.2)
    ∙ ap suc (count_pieces a b s (rest_increasing x s h) d (λ y i. f y (later i)))

split : {X : Type 0} (p : X → Bool) (xs : List X) → length xs ≡ length (filter (λ x. not (p x)) xs) + length (filter p xs)
split p [] = refl
split p (x ∷ xs) =
    let rest = split p xs in
    elim (p x) as (λ v. suc (length xs) ≡ length (cond (not v) (x ∷ filter (λ x. not (p x)) xs) (filter (λ x. not (p x)) xs)) + length (cond v (x ∷ filter p xs) (filter p xs))) [
      | true ↦ omega (arith, rest)
      | false ↦ omega (arith, rest)
    ]

-- the facets with a and s, where s lies in the join
module _ (c : List (List ℕ)) (a b s : List ℕ) (up : is_increasing simplex_cmp c ≡ true) (sb : is_set b ≡ true) (p : Parts c a b) (inside : lies_in_join a b s ≡ true) where
  abbrev left : List ℕ
  left = minus b s

  both : filter (is_within a) (facets_with c s) ≡ pieces a b left
  both = same_sets nat_list_cmp_total exact (filter (is_within a) (facets_with c s)) (pieces a b left)
      (is_increasing-filter simplex_cmp (is_within a) (facets_with c s) (is_increasing-filter simplex_cmp (is_within s) c up))
      (is_increasing-in_order nat_list_cmp_total (map (λ x. union a (without b x)) left))
      (λ t i.
      let r = from_filter (is_within a) t (facets_with c s) i in
      let q = from_filter (is_within s) t c r.0 in
      let k = from_ball a b t (subst (λ l. In t l) p.star (in_filter (is_within a) t c q.0 r.1)) in
      let out : In k.0 s → ⊥ = λ j. elim (from_union a (without b k.0) k.0 (subst (λ u. In k.0 u) k.2 (within_in s t k.0 q.1 j))) [
        | inl n ↦ disjoint_at a b k.0 p.apart n k.1
        | inr n ↦ (from_without b k.0 k.0 n).1 refl
      ] in
      subst (λ u. In u (pieces a b left)) (sym k.2) (in_simplices _ (map (λ x. union a (without b x)) left) (in_map (λ x. union a (without b x)) k.0 left (in_filter (λ x. not (has s x)) k.0 b k.1 (not_from (has s k.0) (λ h. out (has_at s k.0 h)))))))
      (λ t i.
      let k = from_map (λ x. union a (without b x)) t left (from_simplices t (map (λ x. union a (without b x)) left) i) in
      let r = from_filter (λ x. not (has s x)) k.0 b k.1 in
      let ball_in : In (union a (without b k.0)) (facets_with c a) = subst (λ l. In (union a (without b k.0)) l) (sym p.star) (in_ball a b k.0 r.0) in
      let q = from_filter (is_within a) (union a (without b k.0)) c ball_in in
      subst (λ u. In u (filter (is_within a) (facets_with c s))) (sym k.2) (in_filter (is_within a) (union a (without b k.0)) (facets_with c s)
      (in_filter (is_within s) (union a (without b k.0)) c q.0 (in_within s (union a (without b k.0)) (λ y j. in_union a (without b k.0) y (elim (from_join a b s y inside j) [
        | inl n ↦ inl n
        | inr n ↦ inr (in_without b k.0 y n (λ e. false_at (has s k.0) (not_true (has s k.0) r.1) (has_from s k.0 (subst (λ z. In z s) e j))))
      ]))))
      q.1))

  split_degree : degree c s ≡ length (filter (λ t. not (is_within a t)) (facets_with c s)) + length left
  split_degree =
      split (is_within a) (facets_with c s)
      ∙ ap (λ n. length (filter (λ t. not (is_within a t)) (facets_with c s)) + n) (ap length both ∙ count_pieces a b left (is_increasing-filter nat_cmp (λ x. not (has s x)) b sb) p.apart (λ x i. (from_filter (λ x. not (has s x)) x b i).0))

module _ (c : List (List ℕ)) (m : Flip) (simple : list_all is_simplex c ≡ true) (cx : is_complex c ≡ true) (sa : is_simplex m.a ≡ true) (sb : is_simplex m.b ≡ true) (ok : allowed c m.a m.b ≡ true) where
  abbrev d : List (List ℕ)
  d = flip c m.a m.b

  there : Parts c m.a m.b
  there = parts_of c m.a m.b ok

  back : Parts d m.b m.a
  back = parts_of d m.b m.a (flips_back_lem c m.a m.b simple cx sa sb ok).0

  pub size_same : size d ≡ size c
  size_same = let p = there.sizes.2 in let q = back.sizes.2 in omega arith

  sets_before : list_all is_set c ≡ true
  sets_before = sets_of c simple

  sets_after : list_all is_set d ≡ true
  sets_after = all_from is_set d (λ t i. elim (from_flip c m.a m.b t i) [
    | inl j ↦ rising_of t (all_at is_simplex t c simple j.0)
    | inr j ↦ (let r = from_ball m.b m.a t j in ap is_set r.2 ∙ is_increasing-union m.b (without m.a r.0))
  ])

  -- ---- outside the join
  outside_star : (s : List ℕ) → lies_in_join m.a m.b s ≡ false → facets_with d s ≡ facets_with c s
  outside_star s h =
      same_sets nat_list_cmp_total exact (facets_with d s) (facets_with c s)
      (is_increasing-filter simplex_cmp (is_within s) d (and_left _ _ (complex_after c m.a m.b simple cx sa sb there)))
      (is_increasing-filter simplex_cmp (is_within s) c (and_left _ _ cx))
      (λ t i.
      let r = from_filter (is_within s) t d i in
      elim (from_flip c m.a m.b t r.0) [
        | inl j ↦ in_filter (is_within s) t c j.0 r.1
        | inr j ↦ absurd (false_at _ h (join_below m.a m.b s t r.1 (other_in_join m.a m.b t j)))
      ])
      (λ t i.
      let r = from_filter (is_within s) t c i in
      in_filter (is_within s) t d (in_flip c m.a m.b t (inl (r.0, false_from (is_within m.a t) (λ w. false_at _ h (join_below m.a m.b s t r.1 (star_in_join t r.0 w)))))) r.1)
    where
      star_in_join : (t : List ℕ) → In t c → is_within m.a t ≡ true → lies_in_join m.a m.b t ≡ true
      star_in_join t i w = ball_in_join m.a m.b t (subst (λ l. In t l) there.star (in_filter (is_within m.a) t c i w))

  outside_face : (s : List ℕ) → lies_in_join m.a m.b s ≡ false → is_face d s ≡ is_face c s
  outside_face s h = same_face d c s (outside_star s h)

  -- ---- in the join
  inside_face : (s : List ℕ) → lies_in_join m.a m.b s ≡ true → is_face d s ≡ not (is_within m.a s)
  inside_face s h =
      agree (is_face d s) (not (is_within m.a s))
      (λ f. let t = face_at d s f in not_from (is_within m.a s) (λ w. false_at (is_face d m.a) back.absent (face_from d m.a t.0 t.1 (within_trans m.a s t.0 w t.2))))
      (λ n.
      let x = label_beside m.a s (not_true (is_within m.a s) n) in
      let t = union m.b (without m.a x.0) in
      face_from d s t (in_flip c m.a m.b t (inr (in_ball m.b m.a x.0 x.1)))
      (in_within s t (λ y i. in_union m.b (without m.a x.0) y (elim (from_join m.a m.b s y h i) [
        | inl j ↦ inr (in_without m.a x.0 y j (λ e. x.2 (subst (λ z. In z s) e i)))
        | inr j ↦ inl j
      ]))))

  -- ---- the link vertices after the flip
  module _ (s : List ℕ) (inside : lies_in_join m.a m.b s ≡ true) where
    abbrev with_label : ℕ → List ℕ
    with_label x = union s (x ∷ [])

    abbrev of_join : ℕ → Bool
    of_join x = has m.a x || has m.b x

    with_in_join : (x : ℕ) → of_join x ≡ true → lies_in_join m.a m.b (with_label x) ≡ true
    with_in_join x h = all_from of_join (with_label x) (λ y i. elim (from_union s (x ∷ []) y i) [
      | inl j ↦ all_at of_join y s inside j
      | inr j ↦ elim (cases j) [ inl e ↦ subst (λ z. of_join z ≡ true) (sym e) h | inr n ↦ absurd (none y n) ]
    ])

    with_outside : (x : ℕ) → of_join x ≡ false → lies_in_join m.a m.b (with_label x) ≡ false
    with_outside x h = false_from _ (λ k. false_at (of_join x) h (all_at of_join x (with_label x) k (in_union s (x ∷ []) x (inr first))))

    abbrev kept_up : List ℕ
    kept_up = filter (λ x. not (has m.a x || has m.b x)) (link_vertices c s)

    abbrev new_up : List ℕ
    new_up = filter (λ x. not (has s x) && not (is_within m.a (union s (x ∷ [])))) (union m.a m.b)

    there_after : (x : ℕ) → In x (link_vertices d s) → In x (turned m s (link_vertices c s))
    there_after x i =
        let r = from_link d s x i in
        in_union kept_up new_up x (elim (of_join x) as (λ v. of_join x ≡ v → In x kept_up ⊎ In x new_up) [
          | true ↦ λ h. inr (in_filter (λ x. not (has s x) && not (is_within m.a (union s (x ∷ [])))) x (union m.a m.b)
              (in_union m.a m.b x (elim (or_cases (has m.a x) (has m.b x) h) [ inl e ↦ inl (has_at m.a x e) | inr e ↦ inr (has_at m.b x e) ]))
              (and_both _ _ (not_from (has s x) (λ k. r.0 (has_at s x k))) (sym (inside_face (with_label x) (with_in_join x h)) ∙ r.1)))
          | false ↦ λ h. inl (in_filter (λ x. not (has m.a x || has m.b x)) x (link_vertices c s)
              (in_link c s x r.0 (sym (outside_face (with_label x) (with_outside x h)) ∙ r.1)) (ap not h))
        ] refl)

    back_after : (x : ℕ) → In x (turned m s (link_vertices c s)) → In x (link_vertices d s)
    back_after x i = elim (from_union kept_up new_up x i) [
      | inl j ↦ (let r = from_filter (λ x. not (has m.a x || has m.b x)) x (link_vertices c s) j in
          let q = from_link c s x r.0 in
          in_link d s x q.0 (outside_face (with_label x) (with_outside x (not_true (of_join x) r.1)) ∙ q.1))
      | inr j ↦ (let r = from_filter (λ x. not (has s x) && not (is_within m.a (union s (x ∷ [])))) x (union m.a m.b) j in
          let h : of_join x ≡ true = elim (from_union m.a m.b x r.0) [ inl k ↦ or_left (has m.a x) _ (has_from m.a x k) | inr k ↦ or_right (has m.a x) _ (has_from m.b x k) ] in
          in_link d s x (λ k. false_at (has s x) (not_true (has s x) (and_left _ _ r.1)) (has_from s x k)) (inside_face (with_label x) (with_in_join x h) ∙ and_right (not (has s x)) _ r.1))
    ]

    pub link_after : link_vertices d s ≡ turned m s (link_vertices c s)
    link_after = same_sets nat_cmp_total nat_cmp-IsAntisymmetric (link_vertices d s) (turned m s (link_vertices c s)) (link_rising d s) (is_increasing-union kept_up new_up) there_after back_after

    -- ---- the degree after the flip
    join_swapped : lies_in_join m.b m.a s ≡ true
    join_swapped = in_join m.b m.a s (λ x i. elim (from_join m.a m.b s x inside i) [ inl j ↦ inr j | inr j ↦ inl j ])

    untouched : filter (λ t. not (is_within m.b t)) (facets_with d s) ≡ filter (λ t. not (is_within m.a t)) (facets_with c s)
    untouched = same_sets nat_list_cmp_total exact _ _
        (is_increasing-filter simplex_cmp (λ t. not (is_within m.b t)) (facets_with d s) (is_increasing-filter simplex_cmp (is_within s) d (and_left _ _ (complex_after c m.a m.b simple cx sa sb there))))
        (is_increasing-filter simplex_cmp (λ t. not (is_within m.a t)) (facets_with c s) (is_increasing-filter simplex_cmp (is_within s) c (and_left _ _ cx)))
        (λ t i.
        let r = from_filter (λ t. not (is_within m.b t)) t (facets_with d s) i in
        let q = from_filter (is_within s) t d r.0 in
        elim (from_flip c m.a m.b t q.0) [
          | inl j ↦ in_filter (λ t. not (is_within m.a t)) t (facets_with c s) (in_filter (is_within s) t c j.0 q.1) (ap not j.1)
          | inr j ↦ (let k = from_ball m.b m.a t j in
              absurd (false_at (is_within m.b t) (not_true (is_within m.b t) r.1) (in_within m.b t (λ y n. subst (λ u. In y u) (sym k.2) (in_union m.b (without m.a k.0) y (inl n))))))
        ])
        (λ t i.
        let r = from_filter (λ t. not (is_within m.a t)) t (facets_with c s) i in
        let q = from_filter (is_within s) t c r.0 in
        in_filter (λ t. not (is_within m.b t)) t (facets_with d s)
        (in_filter (is_within s) t d (in_flip c m.a m.b t (inl (q.0, not_true (is_within m.a t) r.1))) q.1)
        (not_from (is_within m.b t) (λ w. false_at (is_face c m.b) there.absent (face_from c m.b t q.0 w))))

    pub degree_after : degree d s + length (minus m.b s) ≡ degree c s + length (minus m.a s)
    degree_after =
        let x = split_degree c m.a m.b s (and_left _ _ cx) (rising_of m.b sb) there inside in
        let y = split_degree d m.b m.a s (and_left _ _ (complex_after c m.a m.b simple cx sa sb there)) (rising_of m.a sa) back join_swapped in
        let z = ap length untouched in
        omega (arith, x, y, z)

  -- ---- the flip back
  pub simple_after : list_all is_simplex d ≡ true
  simple_after = all_from is_simplex d (λ t i. elim (from_flip c m.a m.b t i) [
    | inl j ↦ all_at is_simplex t c simple j.0
    | inr j ↦ (let r = from_ball m.b m.a t j in
        let n = pure_at d t back.pure i in
        let e = size_same in
        let few = small c m.a m.b simple cx sa sb there in
        simplex_from t (omega arith)
        (all_from is_label t (λ x k. elim (from_union m.b (without m.a r.0) x (subst (λ u. In x u) r.2 k)) [
          | inl q ↦ all_at is_label x m.b (labels_of m.b sb) q
          | inr q ↦ all_at is_label x m.a (labels_of m.a sa) (from_without m.a r.0 x q).0
        ]))
        (ap is_set r.2 ∙ is_increasing-union m.b (without m.a r.0)))
  ])

  pub back_allowed : IsAllowed d (inverse m)
  back_allowed = record {
    simplices = simple_after;
    complex = complex_after c m.a m.b simple cx sa sb there;
    out = sb;
    into = sa;
    parts = (flips_back_lem c m.a m.b simple cx sa sb ok).0;
  }

  pub back_is : flip d m.b m.a ≡ c
  back_is = (flips_back_lem c m.a m.b simple cx sa sb ok).1

-- the sides of a join are as good in either order
pub join_back : (a b s : List ℕ) → lies_in_join a b s ≡ true → lies_in_join b a s ≡ true
join_back a b s h = in_join b a s (λ x i. elim (from_join a b s x h i) [ inl j ↦ inr j | inr j ↦ inl j ])

pub links_turn_lem : LinksTurn
links_turn_lem c m s h inside = link_after c m h.simplices h.complex h.out h.into h.parts s inside

pub degrees_turn_lem : DegreesTurn
degrees_turn_lem c m s h inside = degree_after c m h.simplices h.complex h.out h.into h.parts s inside

pub sizes_stay_lem : SizesStay
sizes_stay_lem c m h = record { pure = (back c m h.simplices h.complex h.out h.into h.parts).pure; size = size_same c m h.simplices h.complex h.out h.into h.parts }

pub outside_stays_lem : OutsideStays
outside_stays_lem c m s h out =
    let e = outside_star c m h.simplices h.complex h.out h.into h.parts s out in
    record {
      face = same_face (flip c m.a m.b) c s e;
      degree = ap length e;
      up = ap (λ t. minus (verts t) s) e;
    }

pub faces_in_join_lem : FacesInJoin
faces_in_join_lem c m s h inside =
    let k = back_allowed c m h.simplices h.complex h.out h.into h.parts in
    record {
      before =
          ap (λ e. is_face e s) (sym (back_is c m h.simplices h.complex h.out h.into h.parts))
          ∙ inside_face (flip c m.a m.b) (inverse m) k.simplices k.complex k.out k.into k.parts s (join_back m.a m.b s inside);
      after = inside_face c m h.simplices h.complex h.out h.into h.parts s inside;
    }
