-- The set that a flip puts in is known by the one that it takes out.
use Rattle.std.proofs.Common.{◌≡◌, ℕ, ◌+◌, ◌-◌, ◌≤◌, Bool, true, false, not, cond, ◌&&◌, List, [], ◌∷◌, length, refl, sym, ap, ◌∙◌, subst, inl, inr, arith, eqb, Option, Some, None}
use mathlib.Core.Bool.{true≢false}
use Rattle.std.specs.Prelude.{◌==◌}
use Rattle.std.specs.Ordering.{nat_cmp}
use Rattle.std.specs.List.{filter_map, flat_map, cons_option}
use Rattle.std.specs.FinMap.{nat_cmp-IsAntisymmetric}
use Rattle.std.proofs.lemmas.Cmp.{nat_cmp_total}
use Rattle.std.proofs.lemmas.Bool.Decides.{nat_tests}
use Rattle.simplex.specs.declared.flip.Flip.{Flip}
use Rattle.simplex.specs.Simplex.{has, union, without}
use Rattle.simplex.proofs.InOrderLaws.{and_left, and_right, is_increasing-in_order}
use Rattle.simplex.proofs.SimplexLaws.{in_union, from_union, in_without, from_without, disjoint_at, above_at, is_increasing-filter, has_at, has_from}
use Rattle.simplex.proofs.Members.{In, first, later, cases, none, in_filter, from_filter, in_flat_map, from_flat_map, in_order_in, from_in_order, same_sets}
use Rattle.simplex.proofs.Decided.{equal_at}
use Rattle.facet_set.specs.Complex.{facets_with, verts}
use Rattle.facet_set.specs.Numbers.{size, faces_of_size}
use Rattle.facet_set.specs.Flips.{allowed, link_vertices, option_of, options, counterpart}
use Rattle.facet_set.proofs.ComplexLaws.{is_set}
use Rattle.facet_set.proofs.FlipLaws.{Parts, in_ball, from_ball}

-- the vertices are the labels of the facets
pub in_verts : (c : List (List ℕ)) (t : List ℕ) (x : ℕ) → In t c → In x t → In x (verts c)
in_verts c t x i j = in_order_in nat_cmp_total nat_cmp-IsAntisymmetric x (flat_map (λ s. s) c) (in_flat_map (λ s. s) t x c i j)

pub from_verts : (c : List (List ℕ)) (x : ℕ) → In x (verts c) → (t : List ℕ) × In t c × In x t
from_verts c x i = from_flat_map (λ s. s) x c (from_in_order nat_cmp_total nat_cmp-IsAntisymmetric x (flat_map (λ s. s) c) i)

another : (b : List ℕ) (x : ℕ) → is_set b ≡ true → 2 ≤ length b → (y : ℕ) × In y b × (y ≡ x → ⊥)
another [] x h n = absurd (omega arith)
another (y ∷ []) x h n = absurd (omega arith)
another (y ∷ z ∷ b) x h n =
    elim (eqb y x) as (λ v. eqb y x ≡ v → (w : ℕ) × In w (y ∷ z ∷ b) × (w ≡ x → ⊥)) [
      | true ↦ λ e. (z, later first, λ f. apart e f)
      | false ↦ λ e. (y, first, λ f. differ e f)
    ] refl
  where
    apart : eqb y x ≡ true → z ≡ x → ⊥
    apart e f = let l = above_at y (z ∷ b) z h first in let g : y ≡ x = grind (arith, nat_tests) in omega arith

    differ : eqb y x ≡ false → y ≡ x → ⊥
    differ e f = grind (arith, nat_tests)

lacks : (s : List ℕ) (x : ℕ) → (In x s → ⊥) → not (has s x) ≡ true
lacks s x f = by (has s x) (λ h. f (has_at s x h))
  where
    by : (v : Bool) → (v ≡ true → ⊥) → not v ≡ true
    by true g = absurd (g refl)
    by false g = refl

pub link_vertices_is : (c : List (List ℕ)) (a b : List ℕ) → is_set b ≡ true → 2 ≤ length b → Parts c a b → b ≡ link_vertices c a
link_vertices_is c a b h n p =
    same_sets nat_cmp_total nat_cmp-IsAntisymmetric b (link_vertices c a) h
    (is_increasing-filter nat_cmp (λ x. not (has a x)) (verts (facets_with c a)) (is_increasing-in_order nat_cmp_total (flat_map (λ s. s) (facets_with c a))))
    (λ x i.
    let y = another b x h n in
    let t : In (union a (without b y.0)) (facets_with c a) = subst (λ l. In (union a (without b y.0)) l) (sym p.star) (in_ball a b y.0 y.1) in
    in_filter (λ x. not (has a x)) x (verts (facets_with c a))
    (in_verts (facets_with c a) _ x t (in_union a (without b y.0) x (inr (in_without b y.0 x i (λ e. y.2 (sym e))))))
    (lacks a x (λ j. disjoint_at a b x p.apart j i)))
    (λ x i.
    let r = from_filter (λ x. not (has a x)) x (verts (facets_with c a)) i in
    let t = from_verts (facets_with c a) x r.0 in
    let q = from_ball a b t.0 (subst (λ l. In t.0 l) p.star t.1) in
    elim (from_union a (without b q.0) x (subst (λ u. In x u) q.2 t.2)) [
      | inl j ↦ absurd (true≢false (sym r.1 ∙ ap not (has_from a x j)))
      | inr j ↦ (from_without b q.0 x j).0
    ])

module _ {X Y : Type 0} (f : X → Option Y) (y : Y) where
  pub from_filter_map : (xs : List X) → In y (filter_map f xs) → (x : X) × In x xs × (f x ≡ Some y)
  from_filter_map [] i = absurd (none y i)
  from_filter_map (x ∷ xs) i =
      elim (f x) as (λ r. f x ≡ r → In y (cons_option r (filter_map f xs)) → (z : X) × In z (x ∷ xs) × (f z ≡ Some y)) [
        | None ↦ λ e j. let r = from_filter_map xs j in (r.0, later r.1, r.2)
        | Some w ↦ λ e j. elim (cases j) [ inl g ↦ (x, first, e ∙ ap Some (sym g)) | inr k ↦ let r = from_filter_map xs k in (r.0, later r.1, r.2) ]
      ] refl i

pub given : {X : Type 0} (t : Bool) (x y : X) → cond t (Some x) None ≡ Some y → (t ≡ true) × (x ≡ y)
given true x y e = (refl, cc)
given false x y e = cc

-- an option is an allowed flip of its class
pub from_options : (c : List (List ℕ)) (i : ℕ) (m : Flip) → In m (options c i) → (allowed c m.a m.b ≡ true) × (length m.b ≡ i + 1)
from_options c i m j =
    let r = from_filter_map (option_of c i) m (faces_of_size c (size c - i)) j in
    let b = counterpart c i r.0 in
    let q = given (allowed c r.0 b && (length b == i + 1)) (record { a = r.0; b = b }) m r.2 in
    subst (λ (m : Flip). (allowed c m.a m.b ≡ true) × (length m.b ≡ i + 1)) q.1 (and_left _ _ q.0, equal_at (length b) (i + 1) (and_right (allowed c r.0 b) _ q.0))
