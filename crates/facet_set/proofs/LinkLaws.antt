-- Families of faces, and the link of a simplex: its faces, and the facets that it comes of.
use Rattle.std.proofs.Common.{◌≡◌, ℕ, Bool, true, false, not, ◌&&◌, List, refl, sym, ap, ◌∙◌, ◌⊎◌, inl, inr}
use mathlib.Core.Bool.{true≢false}
use Rattle.std.specs.Ordering.{nat_cmp}
use Rattle.std.specs.List.{list_all, filter}
use Rattle.simplex.specs.Simplex.{has, is_within, is_disjoint, union, minus}
use Rattle.simplex.proofs.InOrderLaws.{and_left, and_right, and_both}
use Rattle.simplex.proofs.Members.{In, all_at, all_from, in_filter, from_filter, in_map, from_map}
use Rattle.simplex.proofs.SimplexLaws.{has_at, has_from, within_in, in_within, in_union, from_union, disjoint_at, disjoint_from, is_increasing-filter}
use Rattle.simplex.proofs.Decided.{agree, not_true, not_from}
use Rattle.facet_set.specs.Complex.{generated, is_face, faces, facets_with}
use Rattle.facet_set.specs.Parts.{faces_where, link, link_pieces}
use Rattle.facet_set.proofs.ComplexLaws.{is_set, from_generated, is_complex-generated, is_face-generated, is_face-faces_where, same_complex, face_at, face_from, face_below, from_faces}

generated_sets : (l : List (List ℕ)) → list_all is_set l ≡ true → list_all is_set (generated l) ≡ true
generated_sets l h = all_from is_set (generated l) (λ s i. all_at is_set s l h (from_generated s l i).0)

family_sets : (test : List ℕ → Bool) (c : List (List ℕ)) → list_all is_set c ≡ true → list_all is_set (filter test (faces c)) ≡ true
family_sets test c h = all_from is_set (filter test (faces c)) (λ s i. (from_faces c s h (from_filter test s (faces c) i).0).0)

-- a list with the faces of the family generates its complex
pub parts_are : (test : List ℕ → Bool) (c l : List (List ℕ)) → list_all is_set c ≡ true → list_all is_set l ≡ true → ((b : List ℕ) → is_set b ≡ true → is_face l b ≡ is_face (faces_where test c) b) → generated l ≡ faces_where test c
parts_are test c l h k f =
    same_complex (generated l) (faces_where test c) (generated_sets l k) (generated_sets (filter test (faces c)) (family_sets test c h)) (is_complex-generated l) (is_complex-generated (filter test (faces c)))
    (λ b s. is_face-generated l b k ∙ f b s)

-- ---- the link

-- b is a face of the link of a exactly where it is disjoint from a and the union of both is a face
pub is_face-link : (c : List (List ℕ)) (a b : List ℕ) → list_all is_set c ≡ true → is_set b ≡ true → is_face (link c a) b ≡ (is_disjoint b a && is_face c (union a b))
is_face-link c a b h k =
    is_face-faces_where (λ s. is_disjoint s a && is_face c (union a s)) c h down b k ∙ implied (is_face c b) (is_disjoint b a && is_face c (union a b)) (λ t. face_below c b (union a b) (in_within b (union a b) (λ x i. in_union a b x (inr i))) (and_right (is_disjoint b a) _ t))
  where
    down : (s t : List ℕ) → is_set s ≡ true → is_set t ≡ true → is_within s t ≡ true → (is_disjoint t a && is_face c (union a t)) ≡ true → (is_disjoint s a && is_face c (union a s)) ≡ true
    down s t hs ht w e =
        and_both _ _ (disjoint_from s a (λ x i j. disjoint_at t a x (and_left _ _ e) (within_in s t x w i) j))
        (face_below c (union a s) (union a t) (in_within (union a s) (union a t) (λ x i. in_union a t x (either x (from_union a s x i)))) (and_right (is_disjoint t a) _ e))
      where
        either : (x : ℕ) → In x a ⊎ In x s → In x a ⊎ In x t
        either x (inl i) = inl i
        either x (inr i) = inr (within_in s t x w i)

    implied : (p q : Bool) → (q ≡ true → p ≡ true) → (p && q) ≡ q
    implied true q f = refl
    implied false true f = f refl
    implied false false f = refl

link_sets : (c : List (List ℕ)) (a : List ℕ) → list_all is_set c ≡ true → list_all is_set (link_pieces c a) ≡ true
link_sets c a h = all_from is_set (link_pieces c a) (λ t i.
    let r = from_map (λ s. minus s a) t (facets_with c a) i in
    ap is_set r.2 ∙ is_increasing-filter nat_cmp (λ x. not (has a x)) r.0 (all_at is_set r.0 c h (from_filter (is_within a) r.0 c r.1).0))

from_link : (c : List (List ℕ)) (a b : List ℕ) → is_face (link_pieces c a) b ≡ true → (is_disjoint b a && is_face c (union a b)) ≡ true
from_link c a b f =
    let r = face_at (link_pieces c a) b f in
    let m = from_map (λ s. minus s a) r.0 (facets_with c a) r.1 in
    let q = from_filter (is_within a) m.0 c m.1 in
    let w : is_within b (minus m.0 a) ≡ true = ap (is_within b) (sym m.2) ∙ r.2 in
    let at : (x : ℕ) → In x b → In x m.0 × (not (has a x) ≡ true) = λ x i. from_filter (λ y. not (has a y)) x m.0 (within_in b (minus m.0 a) x w i) in
    and_both _ _ (disjoint_from b a (λ x i j. true≢false (sym (has_from a x j) ∙ not_true (has a x) (at x i).1)))
    (face_from c (union a b) m.0 q.0 (in_within (union a b) m.0 (λ x i. elim (from_union a b x i) [ inl j ↦ within_in a m.0 x q.1 j | inr j ↦ (at x j).0 ])))

in_link : (c : List (List ℕ)) (a b : List ℕ) → (is_disjoint b a && is_face c (union a b)) ≡ true → is_face (link_pieces c a) b ≡ true
in_link c a b f =
    let d : is_disjoint b a ≡ true = and_left _ _ f in
    let r = face_at c (union a b) (and_right (is_disjoint b a) _ f) in
    let w : is_within a r.0 ≡ true = in_within a r.0 (λ x i. within_in (union a b) r.0 x r.2 (in_union a b x (inl i))) in
    face_from (link_pieces c a) b (minus r.0 a) (in_map (λ s. minus s a) r.0 (facets_with c a) (in_filter (is_within a) r.0 c r.1 w))
    (in_within b (minus r.0 a) (λ x i. in_filter (λ y. not (has a y)) x r.0 (within_in (union a b) r.0 x r.2 (in_union a b x (inr i))) (not_from (has a x) (λ t. disjoint_at b a x d i (has_at a x t)))))

pub link_is : (c : List (List ℕ)) (a : List ℕ) → list_all is_set c ≡ true → generated (link_pieces c a) ≡ link c a
link_is c a h =
    parts_are (λ b. is_disjoint b a && is_face c (union a b)) c (link_pieces c a) h (link_sets c a h) (λ b k.
    agree (is_face (link_pieces c a) b) (is_disjoint b a && is_face c (union a b)) (from_link c a b) (in_link c a b) ∙ sym (is_face-link c a b h k))
