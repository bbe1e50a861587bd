-- Laws of flips.
use Rattle.std.proofs.Common.{◌≡◌, ℕ, suc, ◌+◌, ◌≤◌, ◌<◌, Bool, true, false, not, cond, ◌&&◌, List, [], ◌∷◌, ◌++◌, map, length, refl, sym, ap, ◌∙◌, subst, ◌⊎◌, inl, inr, arith, ltb, leb}
use mathlib.Core.Bool.{true≢false}
use Rattle.std.specs.Prelude.{◌==◌}
use Rattle.std.specs.Ordering.{is_eq, nat_cmp}
use Rattle.std.specs.declared.cmp.Ordering.{Ordering}
use Rattle.std.specs.declared.cmp.Ordering.TheVariants.{Less, Equal, Greater}
use Rattle.std.specs.List.{list_all, filter}
use Rattle.std.specs.FinMap.{nat_cmp-IsAntisymmetric, slice_cmp-IsAntisymmetric}
use Rattle.std.proofs.lemmas.Cmp.{nat_cmp_total, nat_list_cmp_total, lists_total}
use Rattle.std.proofs.lemmas.Bool.Decides.{nat_tests}
use Rattle.simplex.specs.InOrder.{is_increasing, in_order}
use Rattle.simplex.specs.Simplex.{is_within, is_disjoint, union, without, simplex_cmp, is_same, is_simplex, is_label, len_limit}
use Rattle.simplex.proofs.InOrderLaws.{and_left, and_right, and_both, is_increasing-in_order, in_order_again, itself}
use Rattle.simplex.proofs.SimplexLaws.{within_same, is_increasing-union, within_in, in_within, in_union, from_union, from_without, disjoint_at, disjoint_from, above_at, rest_increasing, is_increasing-filter}
use Rattle.simplex.proofs.Members.{In, first, later, cases, at_head, none, all_at, all_from, in_filter, from_filter, in_map, from_map, in_left, in_right, in_either, same_sets}
use Rattle.facet_set.specs.Complex.{is_complex, is_face, facets_with, is_maximal_in, is_proper_face}
use Rattle.facet_set.specs.Numbers.{size, is_pure}
use Rattle.simplex.specs.declared.flip.Flip.{Flip}
use Rattle.facet_set.specs.Flips.{allowed, flip, ball, same_facets, goes, after, undoing}
use Rattle.simplex.specs.Flip.{inverse}
use Rattle.simplex.proofs.Decided.{false_from, false_at}
use Rattle.facet_set.specs.FlipsBack.{FlipsBack}
use Rattle.facet_set.proofs.ComplexLaws.{exact, is_set, maximal_from, same_itself, in_simplices, from_simplices, face_at, face_from}
use Rattle.facet_set.proofs.Counting.{count-put}

-- ---- lengths

pub length-union : (s t : List ℕ) → is_set s ≡ true → is_set t ≡ true → is_disjoint s t ≡ true → length (union s t) ≡ length s + length t
length-union [] t h k d = ap length (in_order_again nat_cmp_total nat_cmp-IsAntisymmetric t k) ∙ omega arith
length-union (a ∷ s) t h k d =
    let fresh : In a (in_order nat_cmp (s ++ t)) → ⊥ = λ i. elim (from_union s t a i) [ inl j ↦ (let l = above_at a s a h j in omega arith) | inr j ↦ disjoint_at (a ∷ s) t a d first j ] in
    let rest : is_disjoint s t ≡ true = disjoint_from s t (λ b i j. disjoint_at (a ∷ s) t b d (later i) j) in
    count-put nat_cmp_total nat_cmp-IsAntisymmetric a (in_order nat_cmp (s ++ t)) fresh ∙ ap suc (length-union s t (rest_increasing a s h) k rest) ∙ omega arith

pub without_none : (x : ℕ) (s : List ℕ) → (In x s → ⊥) → without s x ≡ s
without_none x [] f = refl
without_none x (y ∷ s) f =
    elim (x == y) as (λ v. (x == y) ≡ v → cond (not v) (y ∷ without s x) (without s x) ≡ y ∷ s) [
      | true ↦ λ e. absurd (f (at_head x y s (grind (arith, nat_tests))))
      | false ↦ λ e. ap (λ u. y ∷ u) (without_none x s (λ i. f (later i)))
    ] refl

pub length-without : (x : ℕ) (s : List ℕ) → is_set s ≡ true → In x s → length (without s x) + 1 ≡ length s
length-without x [] h i = absurd (none x i)
length-without x (y ∷ s) h i =
    elim (x == y) as (λ v. (x == y) ≡ v → length (cond (not v) (y ∷ without s x) (without s x)) + 1 ≡ suc (length s)) [
      | true ↦ λ e. let same : x ≡ y = grind (arith, nat_tests) in
          ap (λ u. length u + 1) (without_none x s (λ j. let l = above_at y s x h j in omega arith)) ∙ omega arith
      | false ↦ λ e. elim (cases i) [ inl f ↦ absurd (differ f e) | inr j ↦ let r = length-without x s (rest_increasing y s h) j in omega arith ]
    ] refl
  where
    differ : x ≡ y → (x == y) ≡ false → ⊥
    differ f e = grind (arith, nat_tests)

-- ---- pure complexes

pub pure_at : (c : List (List ℕ)) (s : List ℕ) → is_pure c ≡ true → In s c → length s ≡ size c
pure_at [] s h i = absurd (none s i)
pure_at (t ∷ c) s h i = same (all_at (λ t'. length t' == size (t ∷ c)) s (t ∷ c) h i)
  where
    same : (length s == size (t ∷ c)) ≡ true → length s ≡ size (t ∷ c)
    same e = grind (arith, nat_tests)

rank_from : (c : List (List ℕ)) (n : ℕ) (s : List ℕ) → In s c → ((t : List ℕ) → In t c → length t ≡ n) → size c ≡ n
rank_from [] n s i f = absurd (none s i)
rank_from (t ∷ []) n s i f = let e = f t first in omega arith
rank_from (t ∷ u ∷ c) n s i f = let e = f t first in let r = rank_from (u ∷ c) n u first (λ v j. f v (later j)) in omega arith

pub pure_from : (c : List (List ℕ)) (n : ℕ) (s : List ℕ) → In s c → ((t : List ℕ) → In t c → length t ≡ n) → is_pure c ≡ true
pure_from [] n s i f = absurd (none s i)
pure_from (t ∷ c) n s i f =
    all_from (λ u. length u == size (t ∷ c)) (t ∷ c) (λ u j. same u (f u j ∙ sym (rank_from (t ∷ c) n s i f)))
  where
    same : (u : List ℕ) → length u ≡ size (t ∷ c) → (length u == size (t ∷ c)) ≡ true
    same u e = grind (arith, nat_tests)

-- ---- the two balls

pub in_ball : (a b : List ℕ) (x : ℕ) → In x b → In (union a (without b x)) (ball a b)
in_ball a b x i = in_simplices _ (map (λ x. union a (without b x)) b) (in_map (λ x. union a (without b x)) x b i)

pub from_ball : (a b t : List ℕ) → In t (ball a b) → (x : ℕ) × In x b × (t ≡ union a (without b x))
from_ball a b t i = from_map (λ x. union a (without b x)) t b (from_simplices t (map (λ x. union a (without b x)) b) i)

-- a ball's members contain its first set
ball_within : (a b t : List ℕ) → In t (ball a b) → is_within a t ≡ true
ball_within a b t i = let r = from_ball a b t i in ap (is_within a) r.2 ∙ in_within a (union a (without b r.0)) (λ y j. in_union a (without b r.0) y (inl j))

-- and not its second
ball_lacks : (a b t : List ℕ) → is_disjoint a b ≡ true → In t (ball a b) → is_within b t ≡ true → ⊥
ball_lacks a b t d i w =
    let r = from_ball a b t i in
    let j : In r.0 (union a (without b r.0)) = subst (λ u. In r.0 u) r.2 (within_in b t r.0 w r.1) in
    elim (from_union a (without b r.0) r.0 j) [ inl k ↦ disjoint_at a b r.0 d k r.1 | inr k ↦ (from_without b r.0 r.0 k).1 refl ]

length-ball : (a b t : List ℕ) → is_set a ≡ true → is_set b ≡ true → is_disjoint a b ≡ true → In t (ball a b) → length t + 1 ≡ length a + length b
length-ball a b t h k d i =
    let r = from_ball a b t i in
    let apart : is_disjoint a (without b r.0) ≡ true = disjoint_from a (without b r.0) (λ y j l. disjoint_at a b y d j (from_without b r.0 y l).0) in
    let whole = length-union a (without b r.0) h (is_increasing-filter nat_cmp (λ y. not (r.0 == y)) b k) apart in
    let less = length-without r.0 b k r.1 in
    let e : length t ≡ length (union a (without b r.0)) = ap length r.2 in
    omega arith

-- ---- what an allowed flip says

pub same_list : (x y : List (List ℕ)) → same_facets x y ≡ true → x ≡ y
same_list x y h = slice_cmp-IsAntisymmetric exact x y (tie _ h)
  where
    tie : (r : Ordering) → is_eq r ≡ true → r ≡ Equal
    tie Less h = cc
    tie Equal h = refl
    tie Greater h = cc

pub record Parts (c : List (List ℕ)) (a b : List ℕ) : Type 0 where
  pub pure : is_pure c ≡ true
  pub sizes : (0 < length a) × (0 < length b) × (length a + length b ≡ size c + 1)
  pub apart : is_disjoint a b ≡ true
  pub star : facets_with c a ≡ ball a b
  pub absent : is_face c b ≡ false

pub parts_of : (c : List (List ℕ)) (a b : List ℕ) → allowed c a b ≡ true → Parts c a b
parts_of c a b h =
    let second = and_right (is_pure c) _ h in
    let third = and_right (sized) _ second in
    let fourth = and_right (is_disjoint a b) _ third in
    let fifth = and_right (same_facets (facets_with c a) (ball a b)) _ fourth in
    record {
      pure = and_left _ _ h;
      sizes = sizes_of (and_left _ _ second);
      apart = and_left _ _ third;
      star = same_list _ _ (and_left _ _ fourth);
      absent = lacks (is_face c b) (and_left _ _ fifth);
    }
  where
    sized : Bool
    sized = ltb 0 (length a) && ltb 0 (length b) && (length a + length b == size c + 1)

    sizes_of : sized ≡ true → (0 < length a) × (0 < length b) × (length a + length b ≡ size c + 1)
    sizes_of e = (grind (arith, nat_tests), grind (arith, nat_tests), grind (arith, nat_tests))

    lacks : (v : Bool) → not v ≡ true → v ≡ false
    lacks true e = sym e
    lacks false e = refl

pub allowed_from : (c : List (List ℕ)) (a b : List ℕ) → Parts c a b → allowed c a b ≡ true
allowed_from c a b p =
    and_both _ _ p.pure (and_both _ _ sized (and_both _ _ p.apart (and_both _ _ star (and_both _ _ (ap not p.absent) refl))))
  where
    sized : (ltb 0 (length a) && ltb 0 (length b) && (length a + length b == size c + 1)) ≡ true
    sized = let x = p.sizes.0 in let y = p.sizes.1 in let z = p.sizes.2 in grind (arith, nat_tests)

    star : same_facets (facets_with c a) (ball a b) ≡ true
    star = ap (λ x. same_facets x (ball a b)) p.star ∙ itself (lists_total nat_list_cmp_total) (ball a b)

-- the facets after a flip
pub from_flip : (c : List (List ℕ)) (a b t : List ℕ) → In t (flip c a b) → (In t c × (is_within a t ≡ false)) ⊎ In t (ball b a)
from_flip c a b t i =
    elim (in_either t (filter (λ s. not (is_within a s)) c) (ball b a) (from_simplices t (filter (λ s. not (is_within a s)) c ++ ball b a) i)) [
      | inl j ↦ let r = from_filter (λ s. not (is_within a s)) t c j in inl (r.0, lacks (is_within a t) r.1)
      | inr j ↦ inr j
    ]
  where
    lacks : (v : Bool) → not v ≡ true → v ≡ false
    lacks true e = sym e
    lacks false e = refl

pub in_flip : (c : List (List ℕ)) (a b t : List ℕ) → (In t c × (is_within a t ≡ false)) ⊎ In t (ball b a) → In t (flip c a b)
in_flip c a b t i =
    in_simplices t (filter (λ s. not (is_within a s)) c ++ ball b a) (elim i [
      | inl j ↦ in_left t (filter (λ s. not (is_within a s)) c) (ball b a) (in_filter (λ s. not (is_within a s)) t c j.0 (ap not j.1))
      | inr j ↦ in_right t (filter (λ s. not (is_within a s)) c) (ball b a) j
    ])

pub some_label : (s : List ℕ) → 0 < length s → (x : ℕ) × In x s
some_label [] h = absurd (omega arith)
some_label (x ∷ s) h = (x, first)

module _ (c : List (List ℕ)) (a b : List ℕ) (up : is_increasing simplex_cmp c ≡ true) (sa : is_set a ≡ true) (sb : is_set b ≡ true) (p : Parts c a b) where
  no_b : (t : List ℕ) → In t c → is_within b t ≡ true → ⊥
  no_b t i w = false_at (is_face c b) p.absent (face_from c b t i w)

  apart_back : is_disjoint b a ≡ true
  apart_back = disjoint_from b a (λ x i j. disjoint_at a b x p.apart j i)

  length_after : (t : List ℕ) → In t (flip c a b) → length t ≡ size c
  length_after t i =
      elim (from_flip c a b t i) [
        | inl j ↦ pure_at c t p.pure j.0
        | inr j ↦ let e = length-ball b a t sb sa apart_back j in let n = p.sizes.2 in omega arith
      ]

  one_after : (t : List ℕ) × In t (flip c a b)
  one_after = let x = some_label a p.sizes.0 in (union b (without a x.0), in_flip c a b _ (inr (in_ball b a x.0 x.1)))

  star_back : facets_with (flip c a b) b ≡ ball b a
  star_back =
      same_sets nat_list_cmp_total exact (facets_with (flip c a b) b) (ball b a)
      (is_increasing-filter simplex_cmp (is_within b) (flip c a b) (is_increasing-in_order nat_list_cmp_total (filter (λ s. not (is_within a s)) c ++ ball b a)))
      (is_increasing-in_order nat_list_cmp_total (map (λ x. union b (without a x)) a))
      (λ t i. let r = from_filter (is_within b) t (flip c a b) i in elim (from_flip c a b t r.0) [ inl j ↦ absurd (no_b t j.0 r.1) | inr j ↦ j ])
      (λ t i. in_filter (is_within b) t (flip c a b) (in_flip c a b t (inr i)) (ball_within b a t i))

  no_a : is_face (flip c a b) a ≡ false
  no_a = false_from (is_face (flip c a b) a) (λ f. let r = face_at (flip c a b) a f in
      elim (from_flip c a b r.0 r.1) [ inl j ↦ false_at (is_within a r.0) j.1 r.2 | inr j ↦ ball_lacks b a r.0 apart_back j r.2 ])

  parts_back : Parts (flip c a b) b a
  parts_back =
      let rank = rank_from (flip c a b) (size c) one_after.0 one_after.1 length_after in
      let n = p.sizes.2 in
      record {
        pure = pure_from (flip c a b) (size c) one_after.0 one_after.1 length_after;
        sizes = (p.sizes.1, p.sizes.0, omega arith);
        apart = apart_back;
        star = star_back;
        absent = no_a;
      }

  back : flip (flip c a b) b a ≡ c
  back =
      same_sets nat_list_cmp_total exact (flip (flip c a b) b a) c
      (is_increasing-in_order nat_list_cmp_total (filter (λ s. not (is_within b s)) (flip c a b) ++ ball a b)) up
      (λ t i. elim (from_flip (flip c a b) b a t i) [
        | inl j ↦ elim (from_flip c a b t j.0) [ inl k ↦ k.0 | inr k ↦ absurd (false_at (is_within b t) j.1 (ball_within b a t k)) ]
        | inr j ↦ (from_filter (is_within a) t c (subst (λ x. In t x) (sym p.star) j)).0
      ])
      (λ t i. in_flip (flip c a b) b a t (elim (is_within a t) as (λ v. is_within a t ≡ v → (In t (flip c a b) × (is_within b t ≡ false)) ⊎ In t (ball a b)) [
        | true ↦ λ e. inr (subst (λ x. In t x) p.star (in_filter (is_within a) t c i e))
        | false ↦ λ e. inl (in_flip c a b t (inl (i, e)), false_from (is_within b t) (no_b t i))
      ] refl))

simplex_set : (s : List ℕ) → is_simplex s ≡ true → is_set s ≡ true
simplex_set s h = and_right (leb (length s) len_limit && list_all is_label s) _ h

pub flips_back_lem : FlipsBack
flips_back_lem c a b simple cx sa sb ok =
    let p = parts_of c a b ok in
    let up : is_increasing simplex_cmp c ≡ true = and_left _ _ cx in
    (allowed_from (flip c a b) b a (parts_back c a b up (simplex_set a sa) (simplex_set b sb) p), back c a b up (simplex_set a sa) (simplex_set b sb) p)

-- ---- a flip leads to a complex

abbrev pub is_start : List (List ℕ) → Bool
is_start c = list_all is_simplex c && is_complex c

module _ (c : List (List ℕ)) (a b : List ℕ) (simple : list_all is_simplex c ≡ true) (cx : is_complex c ≡ true) (sa : is_simplex a ≡ true) (sb : is_simplex b ≡ true) (p : Parts c a b) where
  up_c : is_increasing simplex_cmp c ≡ true
  up_c = and_left _ _ cx

  set_after : (t : List ℕ) → In t (flip c a b) → is_set t ≡ true
  set_after t i =
      elim (from_flip c a b t i) [
        | inl j ↦ simplex_set t (all_at is_simplex t c simple j.0)
        | inr j ↦ let r = from_ball b a t j in ap is_set r.2 ∙ is_increasing-union b (without a r.0)
      ]

  label_at : (s : List ℕ) (x : ℕ) → is_simplex s ≡ true → In x s → is_label x ≡ true
  label_at s x h i = all_at is_label x s (and_right (leb (length s) len_limit) _ (and_left _ _ h)) i

  labels_after : (t : List ℕ) → In t (flip c a b) → list_all is_label t ≡ true
  labels_after t i =
      elim (from_flip c a b t i) [
        | inl j ↦ and_right (leb (length t) len_limit) _ (and_left _ _ (all_at is_simplex t c simple j.0))
        | inr j ↦ let r = from_ball b a t j in all_from is_label t (λ x k. elim (from_union b (without a r.0) x (subst (λ u. In x u) r.2 k)) [
          | inl m ↦ label_at b x sb m
          | inr m ↦ label_at a x sa (from_without a r.0 x m).0
        ])
      ]

  pub small : size c ≤ 12
  small = let one = some_facet c p.pure in let e = pure_at c one.0 p.pure one.1 in
      short one.0 e (and_left _ _ (and_left _ _ (all_at is_simplex one.0 c simple one.1)))
    where
      some_facet : (c : List (List ℕ)) → is_pure c ≡ true → (t : List ℕ) × In t c
      some_facet [] h = cc
      some_facet (t ∷ c) h = (t, first)

      short : (t : List ℕ) → length t ≡ size c → leb (length t) len_limit ≡ true → size c ≤ 12
      short t e h = grind (arith, nat_tests)

  simple_after : list_all is_simplex (flip c a b) ≡ true
  simple_after = all_from is_simplex (flip c a b) (λ t i.
      let e = length_after c a b up_c (simplex_set a sa) (simplex_set b sb) p t i in
      and_both _ _ (and_both _ _ (fits t e) (labels_after t i)) (set_after t i))
    where
      fits : (t : List ℕ) → length t ≡ size c → leb (length t) len_limit ≡ true
      fits t e = let s = small in grind (arith, nat_tests)

  pub complex_after : is_complex (flip c a b) ≡ true
  complex_after = and_both _ _ (is_increasing-in_order nat_list_cmp_total (filter (λ s. not (is_within a s)) c ++ ball b a))
      (all_from (is_maximal_in (flip c a b)) (flip c a b) (λ s i. maximal_from (flip c a b) s (λ t j. false_from (is_proper_face s t) (λ h.
      let e = length_after c a b up_c (simplex_set a sa) (simplex_set b sb) p s i ∙ sym (length_after c a b up_c (simplex_set a sa) (simplex_set b sb) p t j) in
      let same : s ≡ t = within_same s t (set_after s i) (set_after t j) (and_left _ _ h) e in
      true≢false (sym (ap (is_same s) (sym same) ∙ same_itself s) ∙ lacks (is_same s t) (and_right (is_within s t) _ h) ∙ refl)))))
    where
      lacks : (v : Bool) → not v ≡ true → v ≡ false
      lacks true e = sym e
      lacks false e = refl

-- ---- lists of flips

abbrev is_flip : Flip → Bool
is_flip m = is_simplex m.a && is_simplex m.b

pub goes-append : (c : List (List ℕ)) (l m : List Flip) → goes c l ≡ true → goes (after c l) m ≡ true → goes c (l ++ m) ≡ true
goes-append c [] m h k = k
goes-append c (f ∷ l) m h k = and_both _ _ (and_left _ _ h) (goes-append (flip c f.a f.b) l m (and_right (allowed c f.a f.b) _ h) k)

pub after-append : (c : List (List ℕ)) (l m : List Flip) → after c (l ++ m) ≡ after (after c l) m
after-append c [] m = refl
after-append c (f ∷ l) m = after-append (flip c f.a f.b) l m

-- the inverses, last first, lead back
pub undoing_lem : (c : List (List ℕ)) (l : List Flip) → list_all is_simplex c ≡ true → is_complex c ≡ true → list_all is_flip l ≡ true → goes c l ≡ true → (goes (after c l) (undoing l) ≡ true) × (after (after c l) (undoing l) ≡ c)
undoing_lem c [] simple cx fs h = (refl, refl)
undoing_lem c (m ∷ l) simple cx fs h =
    let ok : allowed c m.a m.b ≡ true = and_left _ _ h in
    let p = parts_of c m.a m.b ok in
    let sa : is_simplex m.a ≡ true = and_left _ _ (and_left _ _ fs) in
    let sb : is_simplex m.b ≡ true = and_right (is_simplex m.a) _ (and_left _ _ fs) in
    let next = flip c m.a m.b in
    let r = undoing_lem next l (simple_after c m.a m.b simple cx sa sb p) (complex_after c m.a m.b simple cx sa sb p) (and_right (is_flip m) _ fs) (and_right (allowed c m.a m.b) _ h) in
    let back = flips_back_lem c m.a m.b simple cx sa sb ok in (
      goes-append (after next l) (undoing l) (inverse m ∷ []) r.0 (ap (λ x. goes x (inverse m ∷ [])) r.1 ∙ and_both _ _ back.0 refl),
      after-append (after next l) (undoing l) (inverse m ∷ []) ∙ ap (λ x. after x (inverse m ∷ [])) r.1 ∙ back.1,
    )
