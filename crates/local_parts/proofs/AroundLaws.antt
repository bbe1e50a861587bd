-- The faces of the list of pieces of a deletion.
use Rattle.std.proofs.Common.{◌≡◌, ℕ, true, false, not, cond, ◌&&◌, List, [], ◌∷◌, map, refl, sym, ap, ◌∙◌, ◌⊎◌, inl, inr}
use mathlib.Core.Bool.{true≢false}
use Rattle.std.specs.Prelude.{◌==◌}
use Rattle.std.specs.Ordering.{nat_cmp}
use Rattle.std.specs.List.{list_all, flat_map}
use Rattle.simplex.specs.Simplex.{has, is_within, without}
use Rattle.simplex.proofs.InOrderLaws.{and_left, and_right, and_both}
use Rattle.simplex.proofs.Members.{In, first, later, cases, none, all_at, all_from, in_map, from_map, in_flat_map, from_flat_map}
use Rattle.simplex.proofs.SimplexLaws.{has_from, within_in, in_within, within_trans, in_without, from_without, is_increasing-filter}
use Rattle.simplex.proofs.Decided.{agree, not_true, not_from}
use Rattle.facet_set.specs.Complex.{generated, is_face}
use Rattle.facet_set.specs.Parts.{deletion}
use Rattle.facet_set.proofs.ComplexLaws.{is_set, is_face-faces_where, face_at, face_from}
use Rattle.facet_set.proofs.LinkLaws.{parts_are}
use Rattle.local_parts.specs.Pieces.{pieces}

from_pieces : (a s t : List ℕ) → In t (pieces a s) → ((is_within a s ≡ false) × (t ≡ s)) ⊎ ((x : ℕ) × In x a × (t ≡ without s x))
from_pieces a s t i =
    elim (is_within a s) as (λ v. is_within a s ≡ v → In t (cond v (map (without s) a) (s ∷ [])) → ((is_within a s ≡ false) × (t ≡ s)) ⊎ ((x : ℕ) × In x a × (t ≡ without s x))) [
      | true ↦ λ e i. inr (from_map (without s) t a i)
      | false ↦ λ e i. inl (e, elim (cases i) [ inl f ↦ f | inr n ↦ absurd (none t n) ])
    ] refl i

in_pieces : (a s : List ℕ) (x : ℕ) → is_within a s ≡ true → In x a → In (without s x) (pieces a s)
in_pieces a s x w i =
    elim (is_within a s) as (λ v. is_within a s ≡ v → In (without s x) (cond v (map (without s) a) (s ∷ []))) [
      | true ↦ λ e. in_map (without s) x a i
      | false ↦ λ e. absurd (true≢false (sym w ∙ e))
    ] refl

in_pieces_whole : (a s : List ℕ) → is_within a s ≡ false → In s (pieces a s)
in_pieces_whole a s w =
    elim (is_within a s) as (λ v. is_within a s ≡ v → In s (cond v (map (without s) a) (s ∷ []))) [
      | true ↦ λ e. absurd (true≢false (sym e ∙ w))
      | false ↦ λ e. first
    ] refl

deletion_sets : (c : List (List ℕ)) (a : List ℕ) → list_all is_set c ≡ true → list_all is_set (flat_map (pieces a) c) ≡ true
deletion_sets c a h = all_from is_set (flat_map (pieces a) c) (λ t i.
    let r = from_flat_map (pieces a) t c i in
    let s : is_set r.0 ≡ true = all_at is_set r.0 c h r.1 in
    elim (from_pieces a r.0 t r.2) [
      | inl p ↦ ap is_set p.1 ∙ s
      | inr q ↦ ap is_set q.2 ∙ is_increasing-filter nat_cmp (λ y. not (q.0 == y)) r.0 s
    ])

-- where not all labels of a are in b, one is not
missing : (a b : List ℕ) → is_within a b ≡ false → (x : ℕ) × In x a × (has b x ≡ false)
missing [] b h = absurd (true≢false h)
missing (x ∷ a) b h =
    elim (has b x) as (λ v. has b x ≡ v → (v && is_within a b) ≡ false → (y : ℕ) × In y (x ∷ a) × (has b y ≡ false)) [
      | true ↦ λ e k. let r = missing a b k in (r.0, later r.1, r.2)
      | false ↦ λ e k. (x, first, e)
    ] refl h

not_within : (a b : List ℕ) → (is_within a b ≡ true → ⊥) → not (is_within a b) ≡ true
not_within a b f = not_from (is_within a b) f

from_deletion : (c : List (List ℕ)) (a b : List ℕ) → is_face (flat_map (pieces a) c) b ≡ true → (is_face c b && not (is_within a b)) ≡ true
from_deletion c a b f =
    let r = face_at (flat_map (pieces a) c) b f in
    let m = from_flat_map (pieces a) r.0 c r.1 in
    elim (from_pieces a m.0 r.0 m.2) [
      | inl p ↦
          let w : is_within b m.0 ≡ true = ap (is_within b) (sym p.1) ∙ r.2 in
          and_both _ _ (face_from c b m.0 m.1 w) (not_within a b (λ t. true≢false (sym (within_trans a b m.0 t w) ∙ p.0)))
      | inr q ↦
          let w : is_within b (without m.0 q.0) ≡ true = ap (is_within b) (sym q.2) ∙ r.2 in
          and_both _ _ (face_from c b m.0 m.1 (in_within b m.0 (λ x i. (from_without m.0 q.0 x (within_in b (without m.0 q.0) x w i)).0)))
          (not_within a b (λ t. (from_without m.0 q.0 q.0 (within_in b (without m.0 q.0) q.0 w (within_in a b q.0 t q.1))).1 refl))
    ]

in_deletion : (c : List (List ℕ)) (a b : List ℕ) → (is_face c b && not (is_within a b)) ≡ true → is_face (flat_map (pieces a) c) b ≡ true
in_deletion c a b f =
    let r = face_at c b (and_left _ _ f) in
    let n : is_within a b ≡ false = not_true (is_within a b) (and_right (is_face c b) _ f) in
    elim (is_within a r.0) as (λ v. is_within a r.0 ≡ v → is_face (flat_map (pieces a) c) b ≡ true) [
      | true ↦ λ e.
          let m = missing a b n in
          face_from (flat_map (pieces a) c) b (without r.0 m.0) (in_flat_map (pieces a) r.0 (without r.0 m.0) c r.1 (in_pieces a r.0 m.0 e m.1))
          (in_within b (without r.0 m.0) (λ x i. in_without r.0 m.0 x (within_in b r.0 x r.2 i) (λ g. true≢false (sym (has_from b x i) ∙ ap (has b) g ∙ m.2))))
      | false ↦ λ e. face_from (flat_map (pieces a) c) b r.0 (in_flat_map (pieces a) r.0 r.0 c r.1 (in_pieces_whole a r.0 e)) r.2
    ] refl

pub deletion_is : (c : List (List ℕ)) (a : List ℕ) → list_all is_set c ≡ true → generated (flat_map (pieces a) c) ≡ deletion c a
deletion_is c a h =
    parts_are (λ b. not (is_within a b)) c (flat_map (pieces a) c) h (deletion_sets c a h) (λ b k.
    agree (is_face (flat_map (pieces a) c) b) (is_face c b && not (is_within a b)) (from_deletion c a b) (in_deletion c a b)
    ∙ sym (is_face-faces_where (λ s. not (is_within a s)) c h (λ s t p q w e. not_within a s (λ u. true≢false (sym (within_trans a s t u w) ∙ not_true (is_within a t) e))) b k))
