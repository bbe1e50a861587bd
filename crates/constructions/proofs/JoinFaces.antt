-- The faces of a join.
use Rattle.std.proofs.Common.{◌≡◌, ℕ, true, List, sym, ap, ◌∙◌, inl, inr}
use Rattle.std.specs.Bool.{IsTrue}
use Rattle.simplex.specs.Simplex.{has, is_simplex, is_within, common, union}
use Rattle.simplex.proofs.Filled.{rising_of}
use Rattle.simplex.proofs.Members.{in_filter, from_filter}
use Rattle.simplex.proofs.SimplexLaws.{has_at, has_from, within_in, in_within, in_union, from_union, same_labels, is_increasing-union}
use Rattle.facet_set.proofs.ComplexLaws.{face_at, face_from, in_simplices, from_simplices}
use Rattle.constructions.specs.Joins.{moved, join}
use Rattle.constructions.specs.Laws.{JoinFaces, JoinNumbers}
use Rattle.constructions.proofs.JoinLaws.{unions, from_unions, in_unions, count_join, size_join}

-- the labels of s that are in t
common_within : (s t : List ℕ) → is_within (common s t) t ≡ true
common_within s t = in_within (common s t) t (λ a i. has_at t a (from_filter (has t) a s i).1)

union_within : (a b u v : List ℕ) → is_within a u ≡ true → is_within b v ≡ true → is_within (union a b) (union u v) ≡ true
union_within a b u v h k = in_within (union a b) (union u v) (λ x i. in_union u v x (elim (from_union a b x i) [ inl j ↦ inl (within_in a u x h j) | inr j ↦ inr (within_in b v x k j) ]))

-- a set that lies in a union is the union of its parts
parted : (s u v : List ℕ) → IsTrue (is_simplex s) → is_within s (union u v) ≡ true → s ≡ union (common s u) (common s v)
parted s u v h w =
    same_labels s (union (common s u) (common s v)) (rising_of s h) (is_increasing-union (common s u) (common s v))
    (in_within s (union (common s u) (common s v)) (λ x i. in_union (common s u) (common s v) x (elim (from_union u v x (within_in s (union u v) x w i)) [
      | inl j ↦ inl (in_filter (has u) x s i (has_from u x j))
      | inr j ↦ inr (in_filter (has v) x s i (has_from v x j))
    ])))
    (in_within (union (common s u) (common s v)) s (λ x i. elim (from_union (common s u) (common s v) x i) [ inl j ↦ (from_filter (has u) x s j).0 | inr j ↦ (from_filter (has v) x s j).0 ]))

pub join_faces_lem : JoinFaces
join_faces_lem x y s fx fy h = (
  λ f. let r = face_at (join x y) s f in
      let q = from_unions x (moved x y) r.0 (from_simplices r.0 (unions x (moved x y)) r.1) in
      (common s q.0, common s q.1, face_from x (common s q.0) q.0 q.2 (common_within s q.0), face_from (moved x y) (common s q.1) q.1 q.3 (common_within s q.1), parted s q.0 q.1 h (ap (is_within s) (sym q.4) ∙ r.2)),
  λ p. let u = face_at x p.0 p.2 in
      let v = face_at (moved x y) p.1 p.3 in
      face_from (join x y) s (union u.0 v.0) (in_simplices (union u.0 v.0) (unions x (moved x y)) (in_unions x (moved x y) u.0 v.0 u.1 v.1)) (ap (λ l. is_within l (union u.0 v.0)) p.4 ∙ union_within p.0 p.1 u.0 v.0 u.2 v.2),
)

pub join_numbers_lem : JoinNumbers
join_numbers_lem x y fx fy = (count_join x y fx.simplices fx.complex fy.simplices fy.complex, λ s t i j. size_join x y fx.simplices fx.complex fy.simplices fy.complex s t i j)
