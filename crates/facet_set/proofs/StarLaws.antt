-- That counting decides which facets contain a simplex.
use Rattle.std.proofs.Common.{◌≡◌, ℕ, suc, ◌+◌, Bool, true, false, not, ◌||◌, List, [], ◌∷◌, map, length, refl, sym, ap, ◌∙◌, subst, ◌⊎◌, inl, inr, arith}
use Rattle.std.specs.Prelude.{◌==◌}
use Rattle.std.specs.List.{list_all}
use Rattle.std.proofs.lemmas.Cmp.{nat_list_cmp_total, lists_total}
use Rattle.simplex.specs.InOrder.{is_increasing}
use Rattle.simplex.specs.Simplex.{has, is_within, is_disjoint, union, without, simplex_cmp, is_simplex}
use Rattle.simplex.proofs.Filled.{rising_of}
use Rattle.simplex.proofs.InOrderLaws.{and_left, and_right, and_both, itself, is_increasing-in_order}
use Rattle.simplex.proofs.Members.{In, first, later, all_at, all_from, from_filter, from_map}
use Rattle.simplex.proofs.SimplexLaws.{has_at, has_from, within_in, in_within, within_length, within_same, label_beside, in_union, from_union, in_without, from_without, disjoint_at, disjoint_from, above_at, rest_increasing, is_increasing-union, is_increasing-filter}
use Rattle.simplex.proofs.Decided.{agree, equal_at, equal_from, false_from}
use Rattle.facet_set.specs.Complex.{simplices, is_complex, facets_with}
use Rattle.facet_set.specs.Numbers.{size, is_pure, degree}
use Rattle.facet_set.specs.Flips.{ball, same_facets}
use Rattle.facet_set.specs.Star.{lies_in_join, is_counted_star}
use Rattle.facet_set.proofs.ComplexLaws.{exact, is_set, from_simplices}
use Rattle.facet_set.proofs.FlipLaws.{pure_at, in_ball, from_ball, length-union, length-without, same_list}
use Rattle.facet_set.proofs.Counting.{same_count, count-put}

-- ---- the members of a ball

-- the sets that leave out different labels differ
pieces_differ : (a b : List ℕ) (x y : ℕ) → is_disjoint a b ≡ true → In x b → (x ≡ y → ⊥) → union a (without b x) ≡ union a (without b y) → ⊥
pieces_differ a b x y d i f e =
    let there : In x (union a (without b y)) = in_union a (without b y) x (inr (in_without b y x i f)) in
    elim (from_union a (without b x) x (subst (λ t. In x t) (sym e) there)) [
      | inl j ↦ disjoint_at a b x d j i
      | inr j ↦ (from_without b x x j).1 refl
    ]

count_pieces : (a b s : List ℕ) → is_set s ≡ true → is_disjoint a b ≡ true → ((x : ℕ) → In x s → In x b) → length (simplices (map (λ x. union a (without b x)) s)) ≡ length s
count_pieces a b [] h d f = refl
count_pieces a b (x ∷ s) h d f =
    count-put nat_list_cmp_total exact (union a (without b x)) (simplices (map (λ x. union a (without b x)) s)) (λ i.
    let r = from_map (λ x. union a (without b x)) (union a (without b x)) s (from_simplices _ (map (λ x. union a (without b x)) s) i) in
    let above = above_at x s r.0 h r.1 in
    pieces_differ a b x r.0 d (f x first) (λ e. omega arith) r.2)
    ∙ ap suc (count_pieces a b s (rest_increasing x s h) d (λ y i. f y (later i)))

-- a ball has as many members as its second set has labels
pub count-ball : (a b : List ℕ) → is_set b ≡ true → is_disjoint a b ≡ true → length (ball a b) ≡ length b
count-ball a b h d = count_pieces a b b h d (λ x i. i)

either_at : (a b : List ℕ) (x : ℕ) → (has a x || has b x) ≡ true → In x a ⊎ In x b
either_at a b x h = by (has a x) (λ e. has_at a x e) h
  where
    by : (v : Bool) → (v ≡ true → In x a) → (v || has b x) ≡ true → In x a ⊎ In x b
    by true f h = inl (f refl)
    by false f h = inr (has_at b x h)

either_from : (a b : List ℕ) (x : ℕ) → In x a ⊎ In x b → (has a x || has b x) ≡ true
either_from a b x (inl i) = ap (λ v. v || has b x) (has_from a x i)
either_from a b x (inr i) = by (has a x) (has_from b x i)
  where
    by : (v : Bool) → has b x ≡ true → (v || has b x) ≡ true
    by true e = refl
    by false e = e

-- a set with a, with labels of a and b alone and one label fewer than both, is one of the ball
pub piece_from : (a b t : List ℕ) → is_set a ≡ true → is_set b ≡ true → is_set t ≡ true → is_disjoint a b ≡ true → is_within a t ≡ true → lies_in_join a b t ≡ true → length t + 1 ≡ length a + length b → In t (ball a b)
piece_from a b t sa sb st d w h n =
    let less = length-without out.0 b sb out.1 in
    let whole = length-union a (without b out.0) sa (is_increasing-filter _ (λ y. not (out.0 == y)) b sb) (disjoint_from a (without b out.0) (λ y i j. disjoint_at a b y d i (from_without b out.0 y j).0)) in
    let same : t ≡ union a (without b out.0) = within_same t (union a (without b out.0)) st (is_increasing-union a (without b out.0)) within (omega arith) in
    subst (λ u. In u (ball a b)) (sym same) (in_ball a b out.0 out.1)
  where
    not_all : is_within b t ≡ true → ⊥
    not_all v =
        let both = length-union a b sa sb d in
        let sub : is_within (union a b) t ≡ true = in_within (union a b) t (λ x i. elim (from_union a b x i) [ inl j ↦ within_in a t x w j | inr j ↦ within_in b t x v j ]) in
        let short = within_length (union a b) t (is_increasing-union a b) st sub in
        omega arith

    out : (x : ℕ) × In x b × (In x t → ⊥)
    out = label_beside b t (false_from (is_within b t) not_all)

    within : is_within t (union a (without b out.0)) ≡ true
    within = in_within t (union a (without b out.0)) (λ x i. in_union a (without b out.0) x (elim (either_at a b x (all_at (λ x. has a x || has b x) x t h i)) [
      | inl j ↦ inl j
      | inr j ↦ inr (in_without b out.0 x j (λ e. out.2 (subst (λ y. In y t) e i)))
    ]))

piece_at : (a b t : List ℕ) → In t (ball a b) → lies_in_join a b t ≡ true
piece_at a b t i =
    let r = from_ball a b t i in
    all_from (λ x. has a x || has b x) t (λ x j. either_from a b x (elim (from_union a (without b r.0) x (subst (λ u. In x u) r.2 j)) [
      | inl k ↦ inl k
      | inr k ↦ inr (from_without b r.0 x k).0
    ]))

-- ---- the star by its count

pub counted_star : (c : List (List ℕ)) (a b : List ℕ) → list_all is_simplex c ≡ true → is_complex c ≡ true → is_simplex a ≡ true → is_simplex b ≡ true
    → is_pure c ≡ true → length a + length b ≡ size c + 1 → is_disjoint a b ≡ true → is_counted_star c a b ≡ same_facets (facets_with c a) (ball a b)
counted_star c a b simple cx sa sb pure n d = agree _ _
    (λ h. ap (λ x. same_facets x (ball a b)) (same_count nat_list_cmp_total exact (facets_with c a) (ball a b) up_star up_ball (λ t i. inside (and_left _ _ h) t i)
    (equal_at (degree c a) (length b) (and_right (list_all (lies_in_join a b) (facets_with c a)) _ h) ∙ sym (count-ball a b (rising_of b sb) d)))
    ∙ itself (lists_total nat_list_cmp_total) (ball a b))
    (λ h. let e : facets_with c a ≡ ball a b = same_list _ _ h in
    and_both _ _ (ap (list_all (lies_in_join a b)) e ∙ all_from (lies_in_join a b) (ball a b) (λ t i. piece_at a b t i))
    (equal_from (degree c a) (length b) (ap length e ∙ count-ball a b (rising_of b sb) d)))
  where
    up_star : is_increasing simplex_cmp (facets_with c a) ≡ true
    up_star = is_increasing-filter simplex_cmp (is_within a) c (and_left _ _ cx)

    up_ball : is_increasing simplex_cmp (ball a b) ≡ true
    up_ball = is_increasing-in_order nat_list_cmp_total (map (λ x. union a (without b x)) b)

    inside : list_all (lies_in_join a b) (facets_with c a) ≡ true → (t : List ℕ) → In t (facets_with c a) → In t (ball a b)
    inside h t i =
        let r = from_filter (is_within a) t c i in
        let fits = pure_at c t pure r.0 in
        piece_from a b t (rising_of a sa) (rising_of b sb) (rising_of t (all_at is_simplex t c simple r.0)) d r.1 (all_at (lies_in_join a b) t (facets_with c a) h i) (omega arith)
