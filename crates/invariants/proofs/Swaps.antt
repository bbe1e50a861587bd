-- A flip seen from both sides.
use Rattle.std.proofs.Common.{◌≡◌, ℕ, ◌<◌, ◌≤◌, true, false, List, [], ◌∷◌, length, sym, ap, ◌∙◌, subst, ◌⊎◌, inl, inr, arith, leb}
use Rattle.std.proofs.lemmas.Bool.Decides.{nat_tests}
use Rattle.std.specs.List.{list_all}
use Rattle.simplex.specs.Simplex.{is_simplex, is_label, is_disjoint, is_within, union, without, len_limit}
use Rattle.simplex.proofs.Decided.{false_at}
use Rattle.simplex.proofs.Filled.{rising_of, short_of}
use Rattle.simplex.proofs.InOrderLaws.{and_left, and_right, and_both}
use Rattle.simplex.proofs.Members.{In, first, all_at, all_from, in_filter, from_filter}
use Rattle.simplex.proofs.SimplexLaws.{in_within, in_union, from_union, from_without, is_increasing-union}
use Rattle.facet_set.specs.Complex.{is_complex, is_face, facets_with}
use Rattle.facet_set.specs.Flips.{ball, flip}
use Rattle.facet_set.specs.Numbers.{is_pure, size}
use Rattle.facet_set.proofs.ComplexLaws.{is_set, face_from}
use Rattle.facet_set.proofs.FlipLaws.{Parts, allowed_from, parts_of, pure_at, from_ball, from_flip, in_flip, flips_back_lem, complex_after}
use Rattle.invariants.specs.Laws.{IsPureComplex}

pub small : (c : List (List ℕ)) → list_all is_simplex c ≡ true → is_pure c ≡ true → size c ≤ 12
small c h p = let r = some c p in omega (arith, pure_at c r.0 p r.1, short_of r.0 (all_at is_simplex r.0 c h r.1))
  where
    some : (c : List (List ℕ)) → is_pure c ≡ true → (t : List ℕ) × In t c
    some [] p = cc
    some (t ∷ c) p = (t, first)

-- the labels of a simplex
pub labels_of : (s : List ℕ) → is_simplex s ≡ true → list_all is_label s ≡ true
labels_of s h = and_right (leb (length s) len_limit) _ (and_left _ _ h)

pub simplex_from : (s : List ℕ) → length s ≤ 12 → list_all is_label s ≡ true → is_set s ≡ true → is_simplex s ≡ true
simplex_from s l h k = and_both _ _ (and_both _ _ (fits l) h) k
  where
    fits : length s ≤ 12 → leb (length s) len_limit ≡ true
    fits l = grind (arith, nat_tests)

-- a flip is allowed in the one complex and leads to the other
pub record Swap (c d : List (List ℕ)) (a b : List ℕ) : Type 0 where
  pub before : IsPureComplex c
  pub gone : is_simplex a ≡ true
  pub come : is_simplex b ≡ true
  pub parts : Parts c a b
  pub turned : flip c a b ≡ d

module _ (c d : List (List ℕ)) (a b : List ℕ) (w : Swap c d a b) where
  pub kept : (t : List ℕ) → In t c → is_within a t ≡ false → In t d
  kept t i e = subst (λ l. In t l) w.turned (in_flip c a b t (inl (i, e)))

  pub put : (t : List ℕ) → In t (ball b a) → In t d
  put t i = subst (λ l. In t l) w.turned (in_flip c a b t (inr i))

  pub either : (t : List ℕ) → In t d → (In t c × (is_within a t ≡ false)) ⊎ In t (ball b a)
  either t i = from_flip c a b t (subst (λ l. In t l) (sym w.turned) i)

  set_a : is_set a ≡ true
  set_a = rising_of a w.gone

  set_b : is_set b ≡ true
  set_b = rising_of b w.come

  parts_after : Parts d b a
  parts_after = subst (λ x. Parts x b a) w.turned (parts_of (flip c a b) b a (flips_back_lem c a b w.before.simplices w.before.complex w.gone w.come (allowed_from c a b w.parts)).0)

  pub size_same : size d ≡ size c
  size_same = let p = w.parts.sizes.2 in let q = parts_after.sizes.2 in omega arith

  simple_after : list_all is_simplex d ≡ true
  simple_after = all_from is_simplex d (λ t i. simplex_from t
      (let e = pure_at d t parts_after.pure i in let m = small c w.before.simplices w.before.pure in omega (arith, size_same))
      (labels t (either t i)) (set t (either t i)))
    where
      labels : (t : List ℕ) → (In t c × (is_within a t ≡ false)) ⊎ In t (ball b a) → list_all is_label t ≡ true
      labels t (inl i) = labels_of t (all_at is_simplex t c w.before.simplices i.0)
      labels t (inr i) =
          let r = from_ball b a t i in
          all_from is_label t (λ x k. elim (from_union b (without a r.0) x (subst (λ u. In x u) r.2 k)) [
            | inl m ↦ all_at is_label x b (labels_of b w.come) m
            | inr m ↦ all_at is_label x a (labels_of a w.gone) (from_without a r.0 x m).0
          ])

      set : (t : List ℕ) → (In t c × (is_within a t ≡ false)) ⊎ In t (ball b a) → is_set t ≡ true
      set t (inl i) = rising_of t (all_at is_simplex t c w.before.simplices i.0)
      set t (inr i) = let r = from_ball b a t i in ap is_set r.2 ∙ is_increasing-union b (without a r.0)

  pub after_is : IsPureComplex d
  after_is = record {
    simplices = simple_after;
    complex = subst (λ x. is_complex x ≡ true) w.turned (complex_after c a b w.before.simplices w.before.complex w.gone w.come w.parts);
    pure = parts_after.pure;
  }

  pub back : Swap d c b a
  back = record {
    before = after_is;
    gone = w.come;
    come = w.gone;
    parts = parts_after;
    turned = ap (λ x. flip x b a) (sym w.turned) ∙ (flips_back_lem c a b w.before.simplices w.before.complex w.gone w.come (allowed_from c a b w.parts)).1;
  }

-- the facets that contain a are those of the ball of a and b, and b is no face
pub record Star (c : List (List ℕ)) (a b : List ℕ) : Type 0 where
  pub a_set : is_set a ≡ true
  pub b_set : is_set b ≡ true
  pub some : 0 < length b
  pub apart : is_disjoint a b ≡ true
  pub star : facets_with c a ≡ ball a b
  pub absent : is_face c b ≡ false

module _ (c : List (List ℕ)) (a b : List ℕ) (w : Star c a b) where
  pub from_star : (t : List ℕ) → In t c → is_within a t ≡ true → In t (ball a b)
  from_star t i e = subst (λ l. In t l) w.star (in_filter (is_within a) t c i e)

  pub in_star : (t : List ℕ) → In t (ball a b) → In t c
  in_star t i = (from_filter (is_within a) t c (subst (λ l. In t l) (sym w.star) i)).0

  pub none_with : (t : List ℕ) → In t c → is_within b t ≡ true → ⊥
  none_with t i e = false_at (is_face c b) w.absent (face_from c b t i e)

pub star_of : (c d : List (List ℕ)) (a b : List ℕ) → Swap c d a b → Star c a b
star_of c d a b w = record {
  a_set = rising_of a w.gone;
  b_set = rising_of b w.come;
  some = w.parts.sizes.1;
  apart = w.parts.apart;
  star = w.parts.star;
  absent = w.parts.absent;
}

-- a ball's members contain its first set
pub ball_within : (a b t : List ℕ) → In t (ball a b) → is_within a t ≡ true
ball_within a b t i = let r = from_ball a b t i in ap (is_within a) r.2 ∙ in_within a (union a (without b r.0)) (λ y j. in_union a (without b r.0) y (inl j))
