-- The flips of a walk are options, and options of a complex of simplices are flips of simplices.
use Rattle.std.proofs.Common.{◌≡◌, ℕ, zero, suc, ◌+◌, ◌*◌, ◌-◌, ◌%◌, ◌≤◌, ◌<◌, Bool, true, false, not, cond, ◌&&◌, List, [], ◌∷◌, map, length, refl, sym, ap, ◌∙◌, subst, inl, inr, arith, leb, ltb, Option, Some, None}
use Rattle.std.specs.Prelude.{◌==◌, slice_get, option_map, option_to_list}
use Rattle.std.specs.List.{list_all, filter, flat_map, range_with_len}
use Rattle.std.specs.Ordering.{nat_cmp}
use Rattle.std.proofs.lemmas.Cmp.{nat_cmp_total}
use Rattle.std.proofs.lemmas.Bool.Decides.{nat_tests}
use Rattle.simplex.specs.declared.flip.Flip.{Flip}
use Rattle.simplex.specs.Simplex.{has, is_label, is_simplex, is_within, label_limit}
use Rattle.simplex.proofs.Filled.{simplex_from, short_of}
use Rattle.simplex.proofs.InOrderLaws.{and_left, and_both, is_increasing-in_order}
use Rattle.simplex.proofs.Members.{In, first, later, cases, at_head, none, all_at, all_from, from_filter, from_map, from_flat_map}
use Rattle.simplex.proofs.SimplexLaws.{is_increasing-filter}
use Rattle.facet_set.specs.Complex.{faces, facets_with, verts}
use Rattle.facet_set.specs.Numbers.{size, faces_of_size, is_pure}
use Rattle.facet_set.specs.Flips.{allowed, fresh, least_missing, link_vertices, counterpart, option_of, options}
use Rattle.facet_set.proofs.ComplexLaws.{is_set}
use Rattle.facet_set.proofs.FaceLaws.{all_faces_lem}
use Rattle.facet_set.proofs.FlipLaws.{Parts, parts_of, pure_at}
use Rattle.facet_set.proofs.OptionLaws.{from_options, from_filter_map, given}
use Rattle.facet_set.proofs.VertexLaws.{verts_labels}
use Rattle.flip_certificate.specs.Lines.{is_flip}
use Rattle.annealer.specs.Walk.{first_filled, best_options, mixed_options, other_options, pool, chosen, pick, is_shrinking, is_mixing, below}
use Rattle.facet_set.proofs.FreshLaws.{missing_low}

-- ---- a pick is an option

module _ {X : Type 0} where
  from_slice : (xs : List X) (n : ℕ) (x : X) → slice_get xs n ≡ Some x → In x xs
  from_slice [] n x e = cc
  from_slice (y ∷ xs) zero x e = at_head x y xs cc
  from_slice (y ∷ xs) (suc n) x e = later (from_slice xs n x e)

  from_filled : (ls : List (List X)) (x : X) → In x (first_filled ls) → (l : List X) × In l ls × In x l
  from_filled [] x i = absurd (none x i)
  from_filled ([] ∷ ls) x i = let r = from_filled ls x i in (r.0, later r.1, r.2)
  from_filled ((y ∷ ys) ∷ ls) x i = (y ∷ ys, first, i)

-- an option of some class
abbrev IsOption : List (List ℕ) → Flip → Type 0
IsOption c m = (i : ℕ) × In m (options c i)

from_best : (c : List (List ℕ)) (m : Flip) → In m (best_options c) → IsOption c m
from_best c m i =
    let r = from_filled (map (options c) (filter (is_shrinking (size c)) (below (size c)))) m i in
    let q = from_map (options c) r.0 (filter (is_shrinking (size c)) (below (size c))) r.1 in
    (q.0, subst (λ l. In m l) q.2 r.2)

from_other : (c : List (List ℕ)) (m : Flip) → In m (other_options c) → IsOption c m
from_other c m i = by (from_filled (mixed_options c ∷ options c 0 ∷ []) m i)
  where
    by : (l : List Flip) × In l (mixed_options c ∷ options c 0 ∷ []) × In m l → IsOption c m
    by r = elim (cases r.1) [
      | inl e ↦ let q = from_flat_map (options c) m (filter (is_mixing (size c)) (range_with_len 0 (size c))) (subst (λ l. In m l) e r.2) in (q.0, q.2)
      | inr j ↦ elim (cases j) [ inl e ↦ (0, subst (λ l. In m l) e r.2) | inr k ↦ absurd (none r.0 k) ]
    ]

from_pool : (c : List (List ℕ)) (heat : ℕ) (m : Flip) → In m (pool c heat).0 → IsOption c m
from_pool c zero m i = by (ltb 0 (length (best_options c))) i
  where
    by : (v : Bool) → In m (cond {A = List Flip × ℕ} v (best_options c, 0) (other_options c, 5 * size c - 1)).0 → IsOption c m
    by true j = from_best c m j
    by false j = from_other c m j
from_pool c (suc heat) m i = from_other c m i

pub from_pick : (c : List (List ℕ)) (heat w : ℕ) (p : Flip × ℕ) → pick c heat w ≡ Some p → IsOption c p.0
from_pick c heat w p e = by (chosen (pool c heat).0 w) refl e
  where
    by : (o : Option Flip) → chosen (pool c heat).0 w ≡ o → option_map {U = Flip × ℕ} (λ m. (m, (pool c heat).1)) o ≡ Some p → IsOption c p.0
    by None f g = cc
    by (Some m) f g =
        let same : m ≡ p.0 = heads m (pool c heat).1 p g in
        subst (λ k. IsOption c k) same (from_pool c heat m (from_slice (pool c heat).0 (w % length (pool c heat).0) m f))
      where
        heads : (m : Flip) (n : ℕ) (p : Flip × ℕ) → Some (m, n) ≡ Some p → m ≡ p.0
        heads m n p g = cc

-- ---- an option is a flip of simplices

module _ (c : List (List ℕ)) (simple : list_all is_simplex c ≡ true) where
  fresh_labels : list_all is_label (option_to_list (fresh c)) ≡ true
  fresh_labels = by (leb (least_missing 1 (verts c)) label_limit) refl
    where
      by : (v : Bool) → leb (least_missing 1 (verts c)) label_limit ≡ v → list_all is_label (option_to_list (cond v (Some (least_missing 1 (verts c))) None)) ≡ true
      by true e = and_both _ _ (and_both _ _ (low (missing_low 1 (verts c))) e) refl
        where
          low : 1 ≤ least_missing 1 (verts c) → leb 1 (least_missing 1 (verts c)) ≡ true
          low h = grind (arith, nat_tests)
      by false e = refl

  fresh_set : is_set (option_to_list (fresh c)) ≡ true
  fresh_set = by (fresh c)
    where
      by : (o : Option ℕ) → is_set (option_to_list o) ≡ true
      by None = refl
      by (Some a) = refl

  star_simple : (a : List ℕ) → list_all is_simplex (facets_with c a) ≡ true
  star_simple a = all_from is_simplex (facets_with c a) (λ s i. all_at is_simplex s c simple (from_filter (is_within a) s c i).0)

  come_labels : (i : ℕ) (a : List ℕ) → list_all is_label (counterpart c i a) ≡ true
  come_labels zero a = fresh_labels
  come_labels (suc i) a = all_from is_label (link_vertices c a) (λ x j. all_at is_label x (verts (facets_with c a)) (verts_labels (facets_with c a) (star_simple a)) (from_filter (λ y. not (has a y)) x (verts (facets_with c a)) j).0)

  come_set : (i : ℕ) (a : List ℕ) → is_set (counterpart c i a) ≡ true
  come_set zero a = fresh_set
  come_set (suc i) a = is_increasing-filter nat_cmp (λ x. not (has a x)) (verts (facets_with c a)) (is_increasing-in_order nat_cmp_total (flat_map (λ s. s) (facets_with c a)))

  size_short : is_pure c ≡ true → size c ≤ 12
  size_short pure = by c simple pure (facet c pure)
    where
      facet : (d : List (List ℕ)) → is_pure d ≡ true → (s : List ℕ) × In s d
      facet [] h = cc
      facet (s ∷ d) h = (s, first)

      by : (d : List (List ℕ)) → list_all is_simplex d ≡ true → is_pure d ≡ true → (s : List ℕ) × In s d → size d ≤ 12
      by d simple pure s = let e = pure_at d s.0 pure s.1 in let k = short_of s.0 (all_at is_simplex s.0 d simple s.1) in omega (arith, e, k)

  come_short : (a b : List ℕ) → Parts c a b → length b ≤ 12
  come_short a b p = let x = p.sizes.0 in let y = p.sizes.2 in let s = size_short p.pure in bound x y s
    where
      bound : 0 < length a → length a + length b ≡ size c + 1 → size c ≤ 12 → length b ≤ 12
      bound x y s = omega (arith, x, y, s)

  option_flip : (i : ℕ) (m : Flip) → In m (options c i) → is_flip m ≡ true
  option_flip i m j =
      let r = from_filter_map (option_of c i) m (faces_of_size c (size c - i)) j in
      let b = counterpart c i r.0 in
      let q = given (allowed c r.0 b && (length b == i + 1)) (record { a = r.0; b = b }) m r.2 in
      let face = (all_faces_lem c r.0 simple).0 (from_filter (λ s. length s == size c - i) r.0 (faces c) r.1).0 in
      let p = parts_of c r.0 b (and_left _ _ q.0) in
      ap is_flip (sym q.1) ∙ and_both _ _ face.0 (simplex_from b (come_short r.0 b p) (come_labels i r.0) (come_set i r.0))

-- a pick is an allowed flip of simplices
pub pick_goes : (c : List (List ℕ)) (heat w : ℕ) (p : Flip × ℕ) → pick c heat w ≡ Some p → allowed c p.0.a p.0.b ≡ true
pick_goes c heat w p e = let r = from_pick c heat w p e in (from_options c r.0 p.0 r.1).0

pub pick_flip : (c : List (List ℕ)) (heat w : ℕ) (p : Flip × ℕ) → list_all is_simplex c ≡ true → pick c heat w ≡ Some p → is_flip p.0 ≡ true
pick_flip c heat w p simple e = let r = from_pick c heat w p e in option_flip c simple r.0 p.0 r.1
