-- The laws of faces, for simplices.
use Rattle.std.proofs.Common.{◌≡◌, ℕ, true, ◌&&◌, List, sym, ◌∙◌, arith}
use Rattle.std.specs.List.{list_all, filter}
use Rattle.simplex.specs.Simplex.{is_within, is_label, is_simplex}
use Rattle.simplex.proofs.InOrderLaws.{and_left, and_right, and_both}
use Rattle.simplex.proofs.Members.{all_at, all_from, in_filter, from_filter}
use Rattle.simplex.proofs.SimplexLaws.{within_in, within_length, within_itself}
use Rattle.simplex.proofs.Filled.{short_of, labels_of, rising_of, simplex_from}
use Rattle.simplex.proofs.Decided.{agree}
use Rattle.facet_set.specs.Complex.{is_face, faces}
use Rattle.facet_set.specs.FaceLaws.{GeneratedMembers, GeneratedFaces, AllFaces, KnownByFaces, FamilyFaces, LinkFaces}
use Rattle.facet_set.proofs.ComplexLaws.{is_set, in_generated, from_generated, is_complex-generated, is_face-generated, same_complex, from_faces, in_faces, face_at, face_from, face_below, sets_of}
use Rattle.facet_set.proofs.LinkLaws.{is_face-link}

-- a set that lies in a simplex is one
below : (s t : List ℕ) → is_set s ≡ true → is_simplex t ≡ true → is_within s t ≡ true → is_simplex s ≡ true
below s t k h w =
    let l = within_length s t k (rising_of t h) w in
    let m = short_of t h in
    simplex_from s (omega arith) (all_from is_label s (λ x i. all_at is_label x t (labels_of t h) (within_in s t x w i))) k

pub face_simplex : (c : List (List ℕ)) (s : List ℕ) → list_all is_simplex c ≡ true → is_set s ≡ true → is_face c s ≡ true → is_simplex s ≡ true
face_simplex c s h k f = let r = face_at c s f in below s r.0 k (all_at is_simplex r.0 c h r.1) r.2

pub generated_members_lem : GeneratedMembers
generated_members_lem l s = (λ i. from_generated s l i, λ p. in_generated s l p.0 p.1)

pub generated_faces_lem : GeneratedFaces
generated_faces_lem l h = (is_complex-generated l, λ s. is_face-generated l s (sets_of l h))

pub all_faces_lem : AllFaces
all_faces_lem c s h = (
  λ i. let r = from_faces c s (sets_of c h) i in (face_simplex c s h r.0 r.1, r.1),
  λ p. in_faces c s (sets_of c h) (rising_of s p.0) p.1,
)

pub known_by_faces_lem : KnownByFaces
known_by_faces_lem c d h k p q f =
    same_complex c d (sets_of c h) (sets_of d k) p q (λ s u. agree (is_face c s) (is_face d s) (λ a. sym (f s (face_simplex c s h u a)) ∙ a) (λ a. f s (face_simplex d s k u a) ∙ a))

pub family_faces_lem : FamilyFaces
family_faces_lem test c s h down k =
    is_face-generated family s (all_from is_set family (λ t i. (from_faces c t (sets_of c h) (from_filter test t (faces c) i).0).0))
    ∙ agree (is_face family s) (is_face c s && test s)
    (λ f.
    let r = face_at family s f in
    let q = from_filter test r.0 (faces c) r.1 in
    let p = from_faces c r.0 (sets_of c h) q.0 in
    and_both _ _ (face_below c s r.0 r.2 p.1) (down s r.0 k (face_simplex c r.0 h p.0 p.1) r.2 q.1))
    (λ f. face_from family s s (in_filter test s (faces c) (in_faces c s (sets_of c h) (rising_of s k) (and_left _ _ f)) (and_right (is_face c s) _ f)) (within_itself s))
  where
    family : List (List ℕ)
    family = filter test (faces c)

pub link_faces_lem : LinkFaces
link_faces_lem c a b h k = is_face-link c a b (sets_of c h) (rising_of b k)
