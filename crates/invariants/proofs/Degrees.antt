-- The facets at a set in the join of the two sets of a flip.
use Rattle.std.proofs.Common.{◌≡◌, ℕ, suc, ◌+◌, ◌<◌, Bool, true, false, not, cond, List, [], ◌∷◌, map, length, refl, sym, ap, ◌∙◌, subst, ◌⊎◌, inl, inr, arith}
use Rattle.std.specs.Ordering.{nat_cmp}
use Rattle.std.specs.Prelude.{◌==◌}
use Rattle.std.specs.List.{filter}
use Rattle.std.proofs.lemmas.Cmp.{nat_list_cmp_total}
use Rattle.simplex.specs.InOrder.{is_increasing}
use Rattle.simplex.specs.Simplex.{has, is_disjoint, is_within, minus, simplex_cmp, union, without}
use Rattle.simplex.proofs.Decided.{equal_at, equal_from, false_at, false_from, not_from, not_true}
use Rattle.simplex.proofs.InOrderLaws.{and_left, is_increasing-in_order}
use Rattle.simplex.proofs.Members.{In, first, in_filter, from_filter, in_map, from_map, same_sets}
use Rattle.simplex.proofs.SimplexLaws.{has_at, has_from, within_in, in_within, same_labels, in_union, from_union, in_without, from_without, disjoint_at, disjoint_from, is_increasing-filter, is_increasing-union}
use Rattle.facet_set.specs.Complex.{facets_with, simplices}
use Rattle.facet_set.specs.Numbers.{degree}
use Rattle.facet_set.proofs.ComplexLaws.{exact, is_set, in_simplices, from_simplices}
use Rattle.facet_set.proofs.FlipLaws.{from_ball, in_ball, length-union}
use Rattle.invariants.proofs.Sums.{length-simplices, once-labels, once-map}
use Rattle.invariants.proofs.Swaps.{Swap, Star, star_of, from_star, in_star, none_with, kept, back, after_is, ball_within}

-- labels of the two sets alone
abbrev pub IsInJoin : List ℕ → List ℕ → List ℕ → Type 0
IsInJoin a b s = (x : ℕ) → In x s → In x a ⊎ In x b

pub swapped : (a b s : List ℕ) → IsInJoin a b s → IsInJoin b a s
swapped a b s f x i = elim (f x i) [ inl j ↦ inr j | inr j ↦ inl j ]

-- ---- numbers of labels
pub minus_set : (a s : List ℕ) → is_set a ≡ true → is_set (minus a s) ≡ true
minus_set a s h = is_increasing-filter nat_cmp (λ x. not (has s x)) a h

pub in_minus : (a s : List ℕ) (x : ℕ) → In x a → (In x s → ⊥) → In x (minus a s)
in_minus a s x i f = in_filter (λ x. not (has s x)) x a i (not_from (has s x) (λ h. f (has_at s x h)))

pub from_minus : (a s : List ℕ) (x : ℕ) → In x (minus a s) → In x a × (In x s → ⊥)
from_minus a s x i = let r = from_filter (λ x. not (has s x)) x a i in (r.0, λ j. false_at (has s x) (not_true (has s x) r.1) (has_from s x j))

-- what the set lacks of the join
pub lacking : (a b s : List ℕ) → is_set a ≡ true → is_set b ≡ true → is_set s ≡ true → is_disjoint a b ≡ true → IsInJoin a b s → length s + (length (minus a s) + length (minus b s)) ≡ length a + length b
lacking a b s sa sb ss d f =
    let rest = union (minus a s) (minus b s) in
    let apart : is_disjoint (minus a s) (minus b s) ≡ true = disjoint_from (minus a s) (minus b s) (λ x i j. disjoint_at a b x d (from_minus a s x i).0 (from_minus b s x j).0) in
    let off : is_disjoint s rest ≡ true = disjoint_from s rest (λ x i j. elim (from_union (minus a s) (minus b s) x j) [ inl k ↦ (from_minus a s x k).1 i | inr k ↦ (from_minus b s x k).1 i ]) in
    let whole : union s rest ≡ union a b = same_labels (union s rest) (union a b) (is_increasing-union s rest) (is_increasing-union a b)
    (in_within (union s rest) (union a b) (λ x i. in_union a b x (elim (from_union s rest x i) [
      | inl j ↦ f x j
      | inr j ↦ elim (from_union (minus a s) (minus b s) x j) [ inl k ↦ inl (from_minus a s x k).0 | inr k ↦ inr (from_minus b s x k).0 ]
    ])))
    (in_within (union a b) (union s rest) (λ x i. in_union s rest x (by x (from_union a b x i) (has s x) refl))) in
    let one = length-union s rest ss (is_increasing-union (minus a s) (minus b s)) off in
    let two = length-union (minus a s) (minus b s) (minus_set a s sa) (minus_set b s sb) apart in
    let three = length-union a b sa sb d in
    let same = ap length whole in
    omega (arith, one, two, three, same)
  where
    by : (x : ℕ) → In x a ⊎ In x b → (v : Bool) → has s x ≡ v → In x s ⊎ In x (union (minus a s) (minus b s))
    by x i true e = inl (has_at s x e)
    by x i false e = inr (in_union (minus a s) (minus b s) x (elim i [
      | inl j ↦ inl (in_minus a s x j (λ k. false_at (has s x) e (has_from s x k)))
      | inr j ↦ inr (in_minus b s x j (λ k. false_at (has s x) e (has_from s x k)))
    ]))

-- nothing is lacking of what lies within
pub none_lacking : (a s : List ℕ) → is_within a s ≡ true → length (minus a s) ≡ 0
none_lacking a s w = empty (minus a s) (λ x i. (from_minus a s x i).1 (within_in a s x w (from_minus a s x i).0))
  where
    empty : (l : List ℕ) → ((x : ℕ) → In x l → ⊥) → length l ≡ 0
    empty [] f = refl
    empty (x ∷ l) f = absurd (f x first)

pub some_lacking : (a s : List ℕ) (x : ℕ) → In x a → (In x s → ⊥) → 0 < length (minus a s)
some_lacking a s x i f = filled (minus a s) (in_minus a s x i f)
  where
    filled : (l : List ℕ) → In x l → 0 < length l
    filled [] i = elim i [ ]
    filled (y ∷ l) i = omega arith

-- ---- the facets with a set of the join
abbrev pub pieces : List ℕ → List ℕ → List ℕ → List (List ℕ)
pieces a b l = simplices (map (λ x. union a (without b x)) l)

pub count_pieces : (a b l : List ℕ) → is_set l ≡ true → is_disjoint a b ≡ true → ((x : ℕ) → In x l → In x b) → length (pieces a b l) ≡ length l
count_pieces a b l h d f =
    length-simplices (map (λ x. union a (without b x)) l) (once-map (λ x. union a (without b x)) l (once-labels l h) differ) ∙ long (λ x. union a (without b x)) l
  where
    differ : (x y : ℕ) → In x l → In y l → union a (without b x) ≡ union a (without b y) → x ≡ y
    differ x y i j e = elim (x == y) as (λ v. (x == y) ≡ v → x ≡ y) [
      | true ↦ λ g. equal_at x y g
      | false ↦ λ g. absurd (elim (from_union a (without b x) x (subst (λ u. In x u) (sym e) (in_union a (without b y) x (inr (in_without b y x (f x i) (λ n. false_at (x == y) g (equal_from x y n))))))) [
        | inl k ↦ disjoint_at a b x d k (f x i)
        | inr k ↦ (from_without b x x k).1 refl
      ])
    ] refl

    long : (f : ℕ → List ℕ) (l : List ℕ) → length (map f l) ≡ length l
    long f [] = refl
    long f (x ∷ l) = ap suc (long f l)

module _ (c : List (List ℕ)) (a b s : List ℕ) (up : is_increasing simplex_cmp c ≡ true) (w : Star c a b) (inside : IsInJoin a b s) where
  both : filter (is_within a) (facets_with c s) ≡ pieces a b (minus b s)
  both = same_sets nat_list_cmp_total exact (filter (is_within a) (facets_with c s)) (pieces a b (minus b s))
      (is_increasing-filter simplex_cmp (is_within a) (facets_with c s) (is_increasing-filter simplex_cmp (is_within s) c up))
      (is_increasing-in_order nat_list_cmp_total (map (λ x. union a (without b x)) (minus b s))) there here
    where
      there : (t : List ℕ) → In t (filter (is_within a) (facets_with c s)) → In t (pieces a b (minus b s))
      there t i =
          let r = from_filter (is_within a) t (facets_with c s) i in
          let q = from_filter (is_within s) t c r.0 in
          let k = from_ball a b t (from_star c a b w t q.0 r.1) in
          let out : In k.0 s → ⊥ = λ j. elim (from_union a (without b k.0) k.0 (subst (λ u. In k.0 u) k.2 (within_in s t k.0 q.1 j))) [
            | inl n ↦ disjoint_at a b k.0 w.apart n k.1
            | inr n ↦ (from_without b k.0 k.0 n).1 refl
          ] in
          subst (λ u. In u (pieces a b (minus b s))) (sym k.2) (in_simplices _ (map (λ x. union a (without b x)) (minus b s)) (in_map (λ x. union a (without b x)) k.0 (minus b s) (in_minus b s k.0 k.1 out)))

      here : (t : List ℕ) → In t (pieces a b (minus b s)) → In t (filter (is_within a) (facets_with c s))
      here t i =
          let k = from_map (λ x. union a (without b x)) t (minus b s) (from_simplices t (map (λ x. union a (without b x)) (minus b s)) i) in
          let r = from_minus b s k.0 k.1 in
          let u = union a (without b k.0) in
          let j : In u c = in_star c a b w u (in_ball a b k.0 r.0) in
          subst (λ u. In u (filter (is_within a) (facets_with c s))) (sym k.2) (in_filter (is_within a) u (facets_with c s)
          (in_filter (is_within s) u c j (in_within s u (λ y n. in_union a (without b k.0) y (elim (inside y n) [
            | inl m ↦ inl m
            | inr m ↦ inr (in_without b k.0 y m (λ e. r.1 (subst (λ z. In z s) e n)))
          ]))))
          (ball_within a b u (in_ball a b k.0 r.0)))

  pub degree_parts : degree c s ≡ length (filter (λ t. not (is_within a t)) (facets_with c s)) + length (minus b s)
  degree_parts =
      split (is_within a) (facets_with c s)
      ∙ ap (λ n. length (filter (λ t. not (is_within a t)) (facets_with c s)) + n) (ap length both ∙ count_pieces a b (minus b s) (minus_set b s w.b_set) w.apart (λ x i. (from_minus b s x i).0))
    where
      split : (p : List ℕ → Bool) (l : List (List ℕ)) → length l ≡ length (filter (λ x. not (p x)) l) + length (filter p l)
      split p [] = refl
      split p (x ∷ l) =
          let rest = split p l in
          elim (p x) as (λ v. suc (length l) ≡ length (cond (not v) (x ∷ filter (λ x. not (p x)) l) (filter (λ x. not (p x)) l)) + length (cond v (x ∷ filter p l) (filter p l))) [
            | true ↦ omega (arith, rest)
            | false ↦ omega (arith, rest)
          ]

-- ---- under a flip
module _ (c d : List (List ℕ)) (a b : List ℕ) (w : Swap c d a b) where
  up_c : is_increasing simplex_cmp c ≡ true
  up_c = and_left _ _ w.before.complex

  up_d : is_increasing simplex_cmp d ≡ true
  up_d = and_left _ _ (after_is c d a b w).complex

  -- a facet that contains a set outside the join is none of the two balls
  outside_kept : (s : List ℕ) → (IsInJoin a b s → ⊥) → (t : List ℕ) → In t (facets_with c s) → In t (facets_with d s)
  outside_kept s f t i =
      let r = from_filter (is_within s) t c i in
      in_filter (is_within s) t d (kept c d a b w t r.0 (false_from (is_within a t) (λ e. f (λ x j.
      let k = from_ball a b t (from_star c a b (star_of c d a b w) t r.0 e) in
      elim (from_union a (without b k.0) x (subst (λ u. In x u) k.2 (within_in s t x r.1 j))) [ inl m ↦ inl m | inr m ↦ inr (from_without b k.0 x m).0 ])))) r.1

  still : (s t : List ℕ) → In t (filter (λ t. not (is_within a t)) (facets_with c s)) → In t (filter (λ t. not (is_within b t)) (facets_with d s))
  still s t i =
      let r = from_filter (λ t. not (is_within a t)) t (facets_with c s) i in
      let q = from_filter (is_within s) t c r.0 in
      in_filter (λ t. not (is_within b t)) t (facets_with d s) (in_filter (is_within s) t d (kept c d a b w t q.0 (not_true (is_within a t) r.1)) q.1)
      (not_from (is_within b t) (λ e. none_with c a b (star_of c d a b w) t q.0 e))

pub outside_degree : (c d : List (List ℕ)) (a b s : List ℕ) → Swap c d a b → (IsInJoin a b s → ⊥) → degree d s ≡ degree c s
outside_degree c d a b s w f = ap length (same_sets nat_list_cmp_total exact (facets_with d s) (facets_with c s)
    (is_increasing-filter simplex_cmp (is_within s) d (up_d c d a b w)) (is_increasing-filter simplex_cmp (is_within s) c (up_c c d a b w))
    (outside_kept d c b a (back c d a b w) s (λ g. f (swapped b a s g))) (outside_kept c d a b w s f))

pub inside_degree : (c d : List (List ℕ)) (a b s : List ℕ) → Swap c d a b → IsInJoin a b s → degree d s + length (minus b s) ≡ degree c s + length (minus a s)
inside_degree c d a b s w f =
    let v = back c d a b w in
    let x = degree_parts c a b s (up_c c d a b w) (star_of c d a b w) f in
    let y = degree_parts d b a s (up_d c d a b w) (star_of d c b a v) (swapped a b s f) in
    let z = ap length (same_sets nat_list_cmp_total exact (filter (λ t. not (is_within a t)) (facets_with c s)) (filter (λ t. not (is_within b t)) (facets_with d s))
    (is_increasing-filter simplex_cmp (λ t. not (is_within a t)) (facets_with c s) (is_increasing-filter simplex_cmp (is_within s) c (up_c c d a b w)))
    (is_increasing-filter simplex_cmp (λ t. not (is_within b t)) (facets_with d s) (is_increasing-filter simplex_cmp (is_within s) d (up_d c d a b w)))
    (still c d a b w s) (still d c b a v s)) in
    omega (arith, x, y, z)
