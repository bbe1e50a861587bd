-- The candidates after a flip.
use Rattle.std.proofs.Common.{◌≡◌, ℕ, zero, suc, ◌+◌, ◌-◌, ◌<◌, ◌≤◌, Bool, true, false, not, cond, ltb, ◌&&◌, ◌||◌, List, [], ◌∷◌, ◌++◌, map, length, get_or, Option, Some, None, refl, sym, ap, ◌∙◌, subst, ◌⊎◌, inl, inr, arith}
use Rattle.std.specs.Prelude.{◌==◌, nat_le, option_map}
use Rattle.std.specs.Ordering.{nat_cmp}
use Rattle.std.specs.List.{list_all, filter, filter_map, flat_map, cons_option, range_with_len}
use Rattle.std.proofs.lemmas.Bool.{le-leb}
use Rattle.std.proofs.lemmas.Cmp.{nat_list_cmp_total}
use Rattle.std.proofs.lemmas.List.FromFn.{length-map-range_with_len, get_or-map-range_with_len, map-range_with_len_more}
use Rattle.std.proofs.lemmas.Option.{get_or_from_slice_get, slice_get_read}
use Rattle.simplex.specs.declared.flip.Flip.{Flip}
use Rattle.simplex.specs.InOrder.{is_increasing}
use Rattle.simplex.specs.Simplex.{has, is_simplex, is_within, is_disjoint, minus, union, without, simplex_cmp, subsets}
use Rattle.simplex.proofs.Decided.{agree, false_from, false_at, not_true, not_from, or_left, or_right, or_cases, equal_at, le_at}
use Rattle.simplex.proofs.Filled.{rising_of}
use Rattle.simplex.proofs.InOrderLaws.{and_left, and_right, and_both, is_increasing-in_order}
use Rattle.simplex.proofs.Members.{In, first, later, none, all_at, all_from, in_filter, from_filter, same_sets}
use Rattle.simplex.proofs.SimplexLaws.{has_at, has_from, within_in, in_within, within_itself, within_length, within_trans, label_beside, in_union, from_union, in_without, from_without, is_increasing-filter, is_increasing-union, list_all-filter}
use Rattle.facet_set.specs.Complex.{is_complex, is_face, is_maximal_in, faces, facets_with, verts, generated}
use Rattle.facet_set.specs.Flips.{allowed, ball, flip, link_vertices, same_facets}
use Rattle.facet_set.specs.Numbers.{size, is_pure, faces_of_size}
use Rattle.facet_set.specs.Star.{lies_in_join}
use Rattle.facet_set.proofs.ComplexLaws.{exact, is_set, face_at, face_from, from_faces, in_faces, sets_of, generated_again, maximal_at, maximal_from}
use Rattle.facet_set.proofs.FlipLaws.{Parts, parts_of, pure_at, pure_from, in_ball, from_ball, from_flip, in_flip, some_label, flips_back_lem, complex_after}
use Rattle.facet_set.proofs.OptionLaws.{given}
use Rattle.flip_rules.specs.declared.candidate.Candidate.{Candidate}
use Rattle.flip_rules.specs.Candidates.{has_star, candidate_of, candidates}
use Rattle.flip_rules.specs.Tallies.{flip_of}
use Rattle.flip_table.specs.Kept.{candidate_lists}
use Rattle.flip_table.specs.Following.{shared, near, is_inside, stayed, seen_in, merged, next_candidates, next_lists, CandidatesFollow}
use Rattle.flip_table.proofs.MergeLaws.{by_a, rising_made, merged_parts}

-- ---- lists of what is made at faces

filter_twice : {X : Type 0} (p q : X → Bool) (xs : List X) → ((x : X) → In x xs → p x ≡ true → q x ≡ true) → filter p (filter q xs) ≡ filter p xs
filter_twice p q [] h = refl
filter_twice p q (x ∷ xs) h =
    let rest = filter_twice p q xs (λ y i. h y (later i)) in
    elim (q x) as (λ v. q x ≡ v → filter p (cond v (x ∷ filter q xs) (filter q xs)) ≡ cond (p x) (x ∷ filter p xs) (filter p xs)) [
      | true ↦ λ e. ap (λ l. cond (p x) (x ∷ l) l) rest
      | false ↦ λ e. rest ∙ sym (ap (λ v. cond v (x ∷ filter p xs) (filter p xs)) (false_from (p x) (λ k. false_at (q x) e (h x first k))))
    ] refl

-- those made at the members that pass a test
filter_made : {Y : Type 0} (key : Y → List ℕ) (p : List ℕ → Bool) (f : List ℕ → Option Y) → ((x : List ℕ) (y : Y) → f x ≡ Some y → key y ≡ x) → (xs : List (List ℕ))
    → filter (λ y. p (key y)) (filter_map f xs) ≡ filter_map f (filter p xs)
filter_made key p f h [] = refl
filter_made key p f h (x ∷ xs) =
    let rest : filter (λ y. p (key y)) (filter_map f xs) ≡ filter_map f (filter p xs) = filter_made key p f h xs in
    elim (f x) as (λ r. f x ≡ r → filter (λ y. p (key y)) (cons_option r (filter_map f xs)) ≡ filter_map f (cond (p x) (x ∷ filter p xs) (filter p xs))) [
      | None ↦ λ e. rest ∙ elim (p x) as (λ v. filter_map f (filter p xs) ≡ filter_map f (cond v (x ∷ filter p xs) (filter p xs))) [
        | true ↦ sym (ap (λ r. cons_option r (filter_map f (filter p xs))) e)
        | false ↦ refl
      ]
      | Some y ↦ λ e. ap (λ k. cond (p k) (y ∷ filter (λ y. p (key y)) (filter_map f xs)) (filter (λ y. p (key y)) (filter_map f xs))) (h x y e)
          ∙ elim (p x) as (λ v. cond v (y ∷ filter (λ y. p (key y)) (filter_map f xs)) (filter (λ y. p (key y)) (filter_map f xs)) ≡ filter_map f (cond v (x ∷ filter p xs) (filter p xs))) [
            | true ↦ ap (λ l. y ∷ l) rest ∙ sym (ap (λ r. cons_option r (filter_map f (filter p xs))) e)
            | false ↦ rest
          ]
    ] refl

-- where each is made from another
made_from : {X Y : Type 0} (f g : X → Option Y) (h : Y → Y) (xs : List X) → ((x : X) → In x xs → f x ≡ option_map h (g x)) → filter_map f xs ≡ map h (filter_map g xs)
made_from f g h [] k = refl
made_from {Y = Y} f g h (x ∷ xs) k = ap (λ r. cons_option r (filter_map f xs)) (k x first) ∙ ap (cons_option (option_map h (g x))) (made_from f g h xs (λ y i. k y (later i))) ∙ one (g x) (filter_map g xs)
  where
    one : (r : Option Y) (ys : List Y) → cons_option (option_map h r) (map h ys) ≡ map h (cons_option r ys)
    one None ys = refl
    one (Some y) ys = refl

-- ---- what a candidate stands on

abbrev at_star : Bool → ℕ → List (List ℕ) → (List ℕ → Bool) → ℕ → List ℕ → Option Candidate
at_star pure n star face i a =
    let b = minus (verts star) a in
    cond (list_all (λ p. p) (pure ∷ (ltb 0 (length a) && ltb 0 (length b) && (length a + length b == n + 1)) ∷ is_disjoint a b ∷ same_facets star (ball a b) ∷ []) && (length b == i + 1))
    (Some (record { flip = record { a = a; b = b }; is_blocked = face b })) None

-- where a face has the same facets, the same candidate is there, by a map that says whether its set is a face
same_star : (c d : List (List ℕ)) (i : ℕ) (a : List ℕ) (h : Candidate → Candidate) → is_pure d ≡ is_pure c → size d ≡ size c → facets_with d a ≡ facets_with c a
    → record { flip = flip_of a (link_vertices c a); is_blocked = is_face d (link_vertices c a) } ≡ h (record { flip = flip_of a (link_vertices c a); is_blocked = is_face c (link_vertices c a) })
    → candidate_of d i a ≡ option_map h (candidate_of c i a)
same_star c d i a h p n s e =
    (λ x. at_star (p x) (n x) (s x) (is_face d) i a) ∙ by (has_star c a (link_vertices c a) && (length (link_vertices c a) == i + 1))
  where
    by : (v : Bool) → cond v (Some (record { flip = flip_of a (link_vertices c a); is_blocked = is_face d (link_vertices c a) })) None
        ≡ option_map h (cond v (Some (record { flip = flip_of a (link_vertices c a); is_blocked = is_face c (link_vertices c a) })) None)
    by true = ap Some e
    by false = refl

made_for : (c : List (List ℕ)) (i : ℕ) (a : List ℕ) (n : Candidate) → candidate_of c i a ≡ Some n → n.flip.a ≡ a
made_for c i a n e =
    let b = link_vertices c a in
    let q = given (has_star c a b && (length b == i + 1)) (record { flip = record { a = a; b = b }; is_blocked = is_face c b }) n e in
    ap (λ (m : Candidate). m.flip.a) (sym q.1)

rising : (c : List (List ℕ)) (i : ℕ) → is_increasing by_a (candidates c i) ≡ true
rising c i =
    rising_made (candidate_of c i) (made_for c i) (faces_of_size c (size c - i))
    (is_increasing-filter simplex_cmp (λ s. length s == size c - i) (faces c) (is_increasing-in_order nat_list_cmp_total (flat_map subsets c)))

-- what is so at each number of a range
range_same : {X : Type 0} (f g : ℕ → X) (a n : ℕ) → ((k : ℕ) → k < a + n → f k ≡ g k) → map f (range_with_len a n) ≡ map g (range_with_len a n)
range_same f g a zero h = refl
range_same f g a (suc n) h = (λ i. h a (omega arith) i ∷ range_same f g (a + 1) n (λ k l. h k (omega arith)) i)

-- complexes with the same faces of a size, where these pass a test
same_faces : (c d : List (List ℕ)) (p : List ℕ → Bool) (k : ℕ) → list_all is_set c ≡ true → list_all is_set d ≡ true → ((s : List ℕ) → is_set s ≡ true → p s ≡ true → length s ≡ k → is_face c s ≡ is_face d s)
    → filter p (faces_of_size c k) ≡ filter p (faces_of_size d k)
same_faces c d p k sc sd f =
    same_sets nat_list_cmp_total exact (filter p (faces_of_size c k)) (filter p (faces_of_size d k)) (up c) (up d) (way c d sc sd f) (way d c sd sc (λ s g h e. sym (f s g h e)))
  where
    up : (c : List (List ℕ)) → is_increasing simplex_cmp (filter p (faces_of_size c k)) ≡ true
    up c = is_increasing-filter simplex_cmp p (faces_of_size c k) (is_increasing-filter simplex_cmp (λ s. length s == k) (faces c) (is_increasing-in_order nat_list_cmp_total (flat_map subsets c)))

    way : (c d : List (List ℕ)) → list_all is_set c ≡ true → list_all is_set d ≡ true → ((s : List ℕ) → is_set s ≡ true → p s ≡ true → length s ≡ k → is_face c s ≡ is_face d s)
        → (s : List ℕ) → In s (filter p (faces_of_size c k)) → In s (filter p (faces_of_size d k))
    way c d sc sd f s i =
        let r = from_filter p s (faces_of_size c k) i in
        let q = from_filter (λ s. length s == k) s (faces c) r.0 in
        let g = from_faces c s sc q.0 in
        in_filter p s (faces_of_size d k) (in_filter (λ s. length s == k) s (faces d) (in_faces d s sd g.0 (sym (f s g.0 r.1 (equal_at (length s) k q.1)) ∙ g.1)) q.1) r.1

-- ---- what a flip changes lies in the join of its two sets

module _ (a b : List ℕ) where
  in_join : (s : List ℕ) → ((x : ℕ) → In x s → In x a ⊎ In x b) → lies_in_join a b s ≡ true
  in_join s f = all_from (λ x. has a x || has b x) s (λ x i. elim (f x i) [ inl j ↦ or_left (has a x) _ (has_from a x j) | inr j ↦ or_right (has a x) _ (has_from b x j) ])

  from_join : (s : List ℕ) (x : ℕ) → lies_in_join a b s ≡ true → In x s → In x a ⊎ In x b
  from_join s x h i = elim (or_cases (has a x) (has b x) (all_at (λ x. has a x || has b x) x s h i)) [ inl e ↦ inl (has_at a x e) | inr e ↦ inr (has_at b x e) ]

  join_below : (s t : List ℕ) → is_within s t ≡ true → lies_in_join a b t ≡ true → lies_in_join a b s ≡ true
  join_below s t w h = in_join s (λ x i. from_join t x h (within_in s t x w i))

  ball_in_join : (t : List ℕ) → In t (ball a b) → lies_in_join a b t ≡ true
  ball_in_join t i =
      let r = from_ball a b t i in
      in_join t (λ x j. elim (from_union a (without b r.0) x (subst (λ u. In x u) r.2 j)) [ inl k ↦ inl k | inr k ↦ inr (from_without b r.0 x k).0 ])

  other_in_join : (t : List ℕ) → In t (ball b a) → lies_in_join a b t ≡ true
  other_in_join t i =
      let r = from_ball b a t i in
      in_join t (λ x j. elim (from_union b (without a r.0) x (subst (λ u. In x u) r.2 j)) [ inl k ↦ inr k | inr k ↦ inl (from_without a r.0 x k).0 ])

-- complexes in which a set has the same facets
face_there : (c d : List (List ℕ)) (s : List ℕ) → facets_with c s ≡ facets_with d s → is_face c s ≡ true → is_face d s ≡ true
face_there c d s e h =
    let t = face_at c s h in
    let r = from_filter (is_within s) t.0 d (subst (λ l. In t.0 l) e (in_filter (is_within s) t.0 c t.1 t.2)) in
    face_from d s t.0 r.0 r.1

same_face : (c d : List (List ℕ)) (s : List ℕ) → facets_with c s ≡ facets_with d s → is_face c s ≡ is_face d s
same_face c d s e = agree _ _ (face_there c d s e) (face_there d c s (sym e))

-- some facets of a complex
pub some_facets : (p : List ℕ → Bool) (d : List (List ℕ)) → is_complex d ≡ true → generated (filter p d) ≡ filter p d
some_facets p d cx =
    generated_again (filter p d) (and_both _ _
    (is_increasing-filter simplex_cmp p d (and_left _ _ cx))
    (all_from (is_maximal_in (filter p d)) (filter p d) (λ s i.
    maximal_from (filter p d) s (λ t j.
    maximal_at d s t (all_at (is_maximal_in d) s d (and_right (is_increasing simplex_cmp d) _ cx) (from_filter p s d i).0) (from_filter p t d j).0))))

abbrev of_both : Flip → ℕ → Bool
of_both m x = has m.a x || has m.b x

-- a facet has at least as many labels in the join as any of its faces there
near_at : (m : Flip) (s t : List ℕ) → is_set s ≡ true → is_set t ≡ true → lies_in_join m.a m.b s ≡ true → is_within s t ≡ true → nat_le (length s) (shared m t) ≡ true
near_at m s t hs ht h w =
    le_from (length s) (shared m t) (within_length s (filter (of_both m) t) hs (is_increasing-filter nat_cmp (of_both m) t ht)
    (in_within s (filter (of_both m) t) (λ x i. in_filter (of_both m) x t (within_in s t x w i) (all_at (of_both m) x s h i))))
  where
    le_from : (n k : ℕ) → n ≤ k → nat_le n k ≡ true
    le_from n k h = le-leb n k h

module _ (c : List (List ℕ)) (m : Flip) (simple : list_all is_simplex c ≡ true) (cx : is_complex c ≡ true) (sa : is_simplex m.a ≡ true) (sb : is_simplex m.b ≡ true) (ok : allowed c m.a m.b ≡ true) where
  abbrev d : List (List ℕ)
  d = flip c m.a m.b

  there : Parts c m.a m.b
  there = parts_of c m.a m.b ok

  back : Parts d m.b m.a
  back = parts_of d m.b m.a (flips_back_lem c m.a m.b simple cx sa sb ok).0

  pub size_same : size d ≡ size c
  size_same = let p = there.sizes.2 in let q = back.sizes.2 in omega arith

  sets_before : list_all is_set c ≡ true
  sets_before = sets_of c simple

  sets_after : list_all is_set d ≡ true
  sets_after = all_from is_set d (λ t i. elim (from_flip c m.a m.b t i) [
    | inl j ↦ rising_of t (all_at is_simplex t c simple j.0)
    | inr j ↦ (let r = from_ball m.b m.a t j in ap is_set r.2 ∙ is_increasing-union m.b (without m.a r.0))
  ])

  -- ---- outside the join
  outside_star : (s : List ℕ) → lies_in_join m.a m.b s ≡ false → facets_with d s ≡ facets_with c s
  outside_star s h =
      same_sets nat_list_cmp_total exact (facets_with d s) (facets_with c s)
      (is_increasing-filter simplex_cmp (is_within s) d (and_left _ _ (complex_after c m.a m.b simple cx sa sb there)))
      (is_increasing-filter simplex_cmp (is_within s) c (and_left _ _ cx))
      (λ t i.
      let r = from_filter (is_within s) t d i in
      elim (from_flip c m.a m.b t r.0) [
        | inl j ↦ in_filter (is_within s) t c j.0 r.1
        | inr j ↦ absurd (false_at _ h (join_below m.a m.b s t r.1 (other_in_join m.a m.b t j)))
      ])
      (λ t i.
      let r = from_filter (is_within s) t c i in
      in_filter (is_within s) t d (in_flip c m.a m.b t (inl (r.0, false_from (is_within m.a t) (λ w. false_at _ h (join_below m.a m.b s t r.1 (star_in_join t r.0 w)))))) r.1)
    where
      star_in_join : (t : List ℕ) → In t c → is_within m.a t ≡ true → lies_in_join m.a m.b t ≡ true
      star_in_join t i w = ball_in_join m.a m.b t (subst (λ l. In t l) there.star (in_filter (is_within m.a) t c i w))

  outside_face : (s : List ℕ) → lies_in_join m.a m.b s ≡ false → is_face d s ≡ is_face c s
  outside_face s h = same_face d c s (outside_star s h)

  -- ---- in the join
  inside_face : (s : List ℕ) → lies_in_join m.a m.b s ≡ true → is_face d s ≡ not (is_within m.a s)
  inside_face s h =
      agree (is_face d s) (not (is_within m.a s))
      (λ f. let t = face_at d s f in not_from (is_within m.a s) (λ w. false_at (is_face d m.a) back.absent (face_from d m.a t.0 t.1 (within_trans m.a s t.0 w t.2))))
      (λ n.
      let x = label_beside m.a s (not_true (is_within m.a s) n) in
      let t = union m.b (without m.a x.0) in
      face_from d s t (in_flip c m.a m.b t (inr (in_ball m.b m.a x.0 x.1)))
      (in_within s t (λ y i. in_union m.b (without m.a x.0) y (elim (from_join m.a m.b s y h i) [
        | inl j ↦ inr (in_without m.a x.0 y j (λ e. x.2 (subst (λ z. In z s) e i)))
        | inr j ↦ inl j
      ]))))

  -- whether the set of a candidate is a face after the flip
  blocked : (b : List ℕ) → is_face d b ≡ cond (lies_in_join m.a m.b b) (not (is_within m.a b)) (is_face c b)
  blocked b =
      elim (lies_in_join m.a m.b b) as (λ v. lies_in_join m.a m.b b ≡ v → is_face d b ≡ cond v (not (is_within m.a b)) (is_face c b)) [
        | true ↦ λ e. inside_face b e
        | false ↦ λ e. outside_face b e
      ] refl

  sets_at : (t : List ℕ) → In t d → is_set t ≡ true
  sets_at t i = all_at is_set t d sets_after i

  module _ (k : ℕ) where
    inside_star : (s : List ℕ) → is_set s ≡ true → lies_in_join m.a m.b s ≡ true → length s ≡ k → facets_with (near m k d) s ≡ facets_with d s
    inside_star s hs h e =
        filter_twice (is_within s) (λ t. nat_le k (shared m t)) d (λ t i w. subst (λ n. nat_le n (shared m t) ≡ true) e (near_at m s t hs (sets_at t i) h w))

    -- ---- the facets near by
    near_sets : list_all is_set (near m k d) ≡ true
    near_sets = list_all-filter is_set (λ t. nat_le k (shared m t)) d sets_after

    module _ (few : k ≤ size c) where
      one_near : (t : List ℕ) × In t (near m k d)
      one_near =
          let x = some_label m.a there.sizes.0 in
          let t = union m.b (without m.a x.0) in
          let i : In t d = in_flip c m.a m.b t (inr (in_ball m.b m.a x.0 x.1)) in
          let h = other_in_join m.a m.b t (in_ball m.b m.a x.0 x.1) in
          (t, in_filter (λ t. nat_le k (shared m t)) t d i (large (length t) (shared m t) (near_at m t t (sets_at t i) (sets_at t i) h (within_itself t)) (pure_at d t back.pure i)))
        where
          large : (n l : ℕ) → nat_le n l ≡ true → n ≡ size d → nat_le k l ≡ true
          large n l h e = let q = size_same in let p = le_at n l h in le-leb k l (omega (arith, p, q, e, few))

      near_pure : is_pure (near m k d) ≡ true
      near_pure = pure_from (near m k d) (size d) one_near.0 one_near.1 (λ t j. pure_at d t back.pure (from_filter (λ t. nat_le k (shared m t)) t d j).0)

      near_size : size (near m k d) ≡ size d
      near_size = sym (pure_at (near m k d) one_near.0 near_pure one_near.1) ∙ pure_at d one_near.0 back.pure (from_filter (λ t. nat_le k (shared m t)) one_near.0 d one_near.1).0

  -- ---- the candidates
  module _ (i : ℕ) (below : i < size c) where
    abbrev out : List ℕ → Bool
    out s = not (lies_in_join m.a m.b s)

    outside : filter (λ n. not (is_inside m n)) (candidates d i) ≡ map (stayed m) (filter (λ n. not (is_inside m n)) (candidates c i))
    outside =
        filter_made (λ n. n.flip.a) out (candidate_of d i) (made_for d i) (faces_of_size d (size d - i))
        ∙ ap (filter_map (candidate_of d i)) (ap (λ n. filter out (faces_of_size d (n - i))) size_same ∙ same_faces d c out (size c - i) sets_after sets_before (λ s g h e. outside_face s (not_true (lies_in_join m.a m.b s) h)))
        ∙ made_from (candidate_of d i) (candidate_of c i) (stayed m) (filter out (faces_of_size c (size c - i))) (λ x k.
        let r = from_filter out x (faces_of_size c (size c - i)) k in
        same_star c d i x (stayed m) (back.pure ∙ sym there.pure) size_same (outside_star x (not_true (lies_in_join m.a m.b x) r.1))
        (λ z. record { flip = flip_of x (link_vertices c x); is_blocked = blocked (link_vertices c x) z }))
        ∙ ap (map (stayed m)) (sym (filter_made (λ n. n.flip.a) out (candidate_of c i) (made_for c i) (faces_of_size c (size c - i))))

    -- the facets near by
    abbrev by : List (List ℕ)
    by = near m (size d - i) d

    few : size d - i ≤ size c
    few = let q = size_same in omega (arith, q)

    by_size : size by ≡ size d
    by_size = near_size (size d - i) few

    inside : filter (is_inside m) (candidates d i) ≡ map (seen_in d) (filter (is_inside m) (candidates by i))
    inside =
        filter_made (λ n. n.flip.a) (lies_in_join m.a m.b) (candidate_of d i) (made_for d i) (faces_of_size d (size d - i))
        ∙ ap (filter_map (candidate_of d i)) (same_faces d by (lies_in_join m.a m.b) (size d - i) sets_after (near_sets (size d - i)) (λ s hs h e. same_face d by s (sym (inside_star (size d - i) s hs h e)))
        ∙ ap (λ n. filter (lies_in_join m.a m.b) (faces_of_size by (n - i))) (sym by_size))
        ∙ made_from (candidate_of d i) (candidate_of by i) (seen_in d) (filter (lies_in_join m.a m.b) (faces_of_size by (size by - i))) (λ x k.
        let r = from_filter (lies_in_join m.a m.b) x (faces_of_size by (size by - i)) k in
        let q = from_filter (λ s. length s == size by - i) x (faces by) r.0 in
        let l = equal_at (length x) (size by - i) q.1 ∙ ap (λ n. n - i) by_size in
        same_star by d i x (seen_in d) (back.pure ∙ sym (near_pure (size d - i) few)) (sym by_size) (sym (inside_star (size d - i) x (from_faces by x (near_sets (size d - i)) q.0).0 r.1 l)) refl)
        ∙ ap (map (seen_in d)) (sym (filter_made (λ n. n.flip.a) (lies_in_join m.a m.b) (candidate_of by i) (made_for by i) (faces_of_size by (size by - i))))

    follow : next_candidates m d i (candidates c i) ≡ candidates d i
    follow = (λ z. merged (sym outside z) (sym inside z)) ∙ merged_parts (is_inside m) (candidates d i) (rising d i)

  -- ---- the lists
  pub lists_follow : next_lists m d (candidate_lists c) ≡ candidate_lists d
  lists_follow =
      ap (λ n. map (λ k. next_candidates m d (k + 1) (get_or (candidate_lists c) k [])) (range_with_len 0 n)) (length-map-range_with_len (λ k. candidates c (k + 1)) 0 (size c - 1) ∙ ap (λ n. n - 1) (sym size_same))
      ∙ range_same (λ k. next_candidates m d (k + 1) (get_or (candidate_lists c) k [])) (λ k. candidates d (k + 1)) 0 (size d - 1) (λ k h.
      ap (next_candidates m d (k + 1)) (get_or-map-range_with_len (λ k. candidates c (k + 1)) 0 (size c - 1) k k [] (fits k h) (omega arith))
      ∙ follow (k + 1) (under k h))
    where
      fits : (k : ℕ) → k < 0 + (size d - 1) → k < size c - 1
      fits k h = let e = size_same in omega (arith, h, e)

      under : (k : ℕ) → k < 0 + (size d - 1) → k + 1 < size c
      under k h = let e = size_same in omega (arith, h, e)

pub candidates_follow_lem : CandidatesFollow
candidates_follow_lem c m i simple cx sa sb ok below = follow c m simple cx sa sb ok i below

-- one list more
pub next_lists_more : (m : Flip) (d : List (List ℕ)) (lists following more : List (List Candidate)) (i : ℕ) (l new : List Candidate) → i < length lists → l ≡ get_or lists i l → new ≡ next_candidates m d (i + 1) l
    → following ≡ map (λ k. next_candidates m d (k + 1) (get_or lists k [])) (range_with_len 0 i) → more ≡ following ++ new ∷ [] → more ≡ map (λ k. next_candidates m d (k + 1) (get_or lists k [])) (range_with_len 0 (i + 1))
next_lists_more m d lists following more i l new h e f g k =
    k ∙ (λ z. g z ++ (f ∙ ap (next_candidates m d (i + 1)) (sym (get_or_from_slice_get lists i l [] (slice_get_read lists (length lists) i l refl h e)))) z ∷ []) ∙ sym (map-range_with_len_more (λ k. next_candidates m d (k + 1) (get_or lists k [])) 0 i i (omega arith))

-- the facets near by, out of those that share a label
pub nearer : (m : Flip) (k : ℕ) (d : List (List ℕ)) → 0 < k → near m k (near m 1 d) ≡ near m k d
nearer m k d h = filter_twice (λ s. nat_le k (shared m s)) (λ s. nat_le 1 (shared m s)) d (λ s i e. let p = le_at k (shared m s) e in le-leb 1 (shared m s) (omega (arith, h, p)))

-- a set that shares a label is a face exactly where it is one of the facets near by
pub face_near : (m : Flip) (d : List (List ℕ)) (s : List ℕ) → 0 < shared m s → is_face (near m 1 d) s ≡ is_face d s
face_near m d s h = same_face (near m 1 d) d s (filter_twice (is_within s) (λ t. nat_le 1 (shared m t)) d (λ t i w. touches t w))
  where
    some_in : (l : List ℕ) (x : ℕ) → In x l → nat_le 1 (length l) ≡ true
    some_in [] x i = absurd (none x i)
    some_in (y ∷ l) x i = le-leb 1 (suc (length l)) (omega arith)

    touches : (t : List ℕ) → is_within s t ≡ true → nat_le 1 (shared m t) ≡ true
    touches t w =
        let x = some_label (filter (of_both m) s) h in
        let r = from_filter (of_both m) x.0 s x.1 in
        some_in (filter (of_both m) t) x.0 (in_filter (of_both m) x.0 t (within_in s t x.0 w r.0) r.1)
