-- The corners of a complex, in a set of pairs in order.
use Rattle.std.proofs.Common.{◌≡◌, ℕ, ◌+◌, ◌≤◌, ◌<◌, Bool, true, false, not, cond, ◌&&◌, List, [], ◌∷◌, map, length, refl, sym, ap, ◌∙◌, subst, ◌⊎◌, inl, inr, arith}
use mathlib.Core.Bool.{true≢false}
use Rattle.std.specs.Prelude.{◌==◌}
use Rattle.std.specs.Cmp.{IsTotalOrder, then_total, on_total}
use Rattle.std.specs.Ordering.{nat_cmp, ordering_then, is_eq, is_le, is_lt, match_ordering}
use Rattle.std.specs.declared.cmp.Ordering.{Ordering}
use Rattle.std.specs.declared.cmp.Ordering.TheVariants.{Less, Equal, Greater}
use Rattle.std.specs.FinMap.{IsAntisymmetric, nat_cmp-IsAntisymmetric}
use Rattle.std.specs.List.{list_any, list_all, filter}
use Rattle.std.specs.BTreeSet.{insert_key}
use Rattle.std.specs.Set.{remove_key}
use Rattle.std.proofs.lemmas.Bool.Decides.{nat_tests}
use Rattle.std.proofs.lemmas.Cmp.{nat_cmp_total, nat_list_cmp_total, tied_itself}
use Rattle.simplex.specs.InOrder.{is_increasing}
use Rattle.simplex.specs.Simplex.{has, is_within, simplex_cmp}
use Rattle.simplex.proofs.InOrderLaws.{and_left, and_right, and_both}
use Rattle.simplex.proofs.Members.{In, first, later, cases, at_head, none, any_from, all_at, all_from, in_filter, from_filter, in_map, from_map, same_sets}
use Rattle.simplex.proofs.SimplexLaws.{has_at, has_from, within_in, is_increasing-filter}
use Rattle.simplex.proofs.Decided.{agree, false_from, equal_at, equal_from}
use Rattle.facet_set.specs.Complex.{is_face, facets_with}
use Rattle.facet_set.specs.Star.{lies_in_join, is_counted_star}
use Rattle.facet_set.proofs.ComplexLaws.{exact, face_at, face_from}
use Rattle.cert_replay.specs.Corners.{corner_cmp, AreCorners, corners_at}

abbrev pub Corner : Type 0
Corner = ℕ × List ℕ

pub corner_total : IsTotalOrder corner_cmp
corner_total = then_total (on_total (λ (p : Corner). p.0) nat_cmp_total) (on_total (λ (p : Corner). p.1) nat_list_cmp_total)

pub corner_exact : IsAntisymmetric corner_cmp
corner_exact p q h =
    let r = both (nat_cmp p.0 q.0) (simplex_cmp p.1 q.1) h in
    let x = nat_cmp-IsAntisymmetric p.0 q.0 r.0 in
    let y = exact p.1 q.1 r.1 in
    λ i. (x i, y i)
  where
    both : (a b : Ordering) → ordering_then a b ≡ Equal → (a ≡ Equal) × (b ≡ Equal)
    both Less b h = cc
    both Equal b h = (refl, h)
    both Greater b h = cc

-- ---- one more pair, and one fewer
pub from_insert : (k p : Corner) (xs : List Corner) → In p (insert_key corner_cmp xs k) → (p ≡ k) ⊎ In p xs
from_insert k p [] i = cases i
from_insert k p (x ∷ xs) i =
    elim (corner_cmp k x) as (λ r. In p (match_ordering r (k ∷ x ∷ xs) (x ∷ xs) (x ∷ insert_key corner_cmp xs k)) → (p ≡ k) ⊎ In p (x ∷ xs)) [
      | Less ↦ λ j. cases j
      | Equal ↦ λ j. inr j
      | Greater ↦ λ j. elim (cases j) [ inl e ↦ inr (at_head p x xs e) | inr l ↦ elim (from_insert k p xs l) [ inl e ↦ inl e | inr m ↦ inr (later m) ] ]
    ] i

pub to_insert : (k p : Corner) (xs : List Corner) → (p ≡ k) ⊎ In p xs → In p (insert_key corner_cmp xs k)
to_insert k p [] i = elim i [ inl e ↦ at_head p k [] e | inr j ↦ absurd (none p j) ]
to_insert k p (x ∷ xs) i =
    elim (corner_cmp k x) as (λ r. corner_cmp k x ≡ r → In p (match_ordering r (k ∷ x ∷ xs) (x ∷ xs) (x ∷ insert_key corner_cmp xs k))) [
      | Less ↦ λ e. elim i [ inl f ↦ at_head p k (x ∷ xs) f | inr j ↦ later j ]
      | Equal ↦ λ e. elim i [ inl f ↦ at_head p x xs (f ∙ corner_exact k x e) | inr j ↦ j ]
      | Greater ↦ λ e. elim i [
        | inl f ↦ later (to_insert k p xs (inl f))
        | inr j ↦ elim (cases j) [ inl f ↦ at_head p x _ f | inr l ↦ later (to_insert k p xs (inr l)) ]
      ]
    ] refl

pub from_remove : (test : Corner → Bool) (p : Corner) (xs : List Corner) → In p (remove_key test xs) → In p xs
from_remove test p [] i = i
from_remove test p (x ∷ xs) i =
    elim (test x) as (λ v. In p (cond v xs (x ∷ remove_key test xs)) → In p (x ∷ xs)) [
      | true ↦ λ j. later j
      | false ↦ λ j. elim (cases j) [ inl e ↦ at_head p x xs e | inr l ↦ later (from_remove test p xs l) ]
    ] i

pub to_remove : (test : Corner → Bool) (p : Corner) (xs : List Corner) → In p xs → test p ≡ false → In p (remove_key test xs)
to_remove test p [] i h = i
to_remove test p (x ∷ xs) i h =
    elim (test x) as (λ v. test x ≡ v → In p (cond v xs (x ∷ remove_key test xs))) [
      | true ↦ λ e. elim (cases i) [ inl f ↦ absurd (true≢false (sym e ∙ ap test (sym f) ∙ h)) | inr j ↦ j ]
      | false ↦ λ e. elim (cases i) [ inl f ↦ at_head p x _ f | inr j ↦ later (to_remove test p xs j h) ]
    ] refl

-- a test that only one pair passes
pub other_corner : (k p : Corner) → (p ≡ k → ⊥) → is_eq (corner_cmp k p) ≡ false
other_corner k p f = by (corner_cmp k p) (λ e. f (sym (corner_exact k p e)))
  where
    by : (r : Ordering) → (r ≡ Equal → ⊥) → is_eq r ≡ false
    by Less g = refl
    by Equal g = absurd (g refl)
    by Greater g = refl

pub out_of : (k : Corner) (xs : List Corner) → list_any (λ x. is_eq (corner_cmp k x)) xs ≡ false → In k xs → ⊥
out_of k xs h i = true≢false (sym (any_from (λ x. is_eq (corner_cmp k x)) k xs i (ap is_eq (tied_itself corner_total k))) ∙ h)

-- ---- the pairs between two bounds
pub at_label : (v : ℕ) (p : Corner) → (is_le (corner_cmp (v, []) p) && not (is_le (corner_cmp (v + 1, []) p))) ≡ (p.0 == v)
at_label v p = agree _ _
    (λ h. equal_from p.0 v (let l = low v p.1 (and_left _ _ h) in let u = high (v + 1) p.1 (and_right (is_le (corner_cmp (v, []) p)) _ h) in omega arith))
    (λ h. let e = equal_at p.0 v h in and_both _ _ (low_from v p.1 (omega arith)) (high_from (v + 1) p.1 (omega arith)))
  where
    least : (s : List ℕ) → is_le (simplex_cmp [] s) ≡ true
    least [] = refl
    least (x ∷ s) = refl

    low : (n : ℕ) (s : List ℕ) → is_le (ordering_then (nat_cmp n p.0) (simplex_cmp [] s)) ≡ true → n ≤ p.0
    low n s h =
        elim (nat_cmp n p.0) as (λ r. nat_cmp n p.0 ≡ r → is_le (ordering_then r (simplex_cmp [] s)) ≡ true → n ≤ p.0) [
          | Less ↦ λ e k. grind (arith, nat_tests)
          | Equal ↦ λ e k. grind (arith, nat_tests)
          | Greater ↦ λ e k. cc
        ] refl h

    high : (n : ℕ) (s : List ℕ) → not (is_le (ordering_then (nat_cmp n p.0) (simplex_cmp [] s))) ≡ true → p.0 < n
    high n s h =
        elim (nat_cmp n p.0) as (λ r. nat_cmp n p.0 ≡ r → not (is_le (ordering_then r (simplex_cmp [] s))) ≡ true → p.0 < n) [
          | Less ↦ λ e k. absurd (true≢false (sym k))
          | Equal ↦ λ e k. absurd (true≢false (sym k ∙ ap not (least s)))
          | Greater ↦ λ e k. grind (arith, nat_tests)
        ] refl h

    low_from : (n : ℕ) (s : List ℕ) → n ≤ p.0 → is_le (ordering_then (nat_cmp n p.0) (simplex_cmp [] s)) ≡ true
    low_from n s h =
        elim (nat_cmp n p.0) as (λ r. nat_cmp n p.0 ≡ r → is_le (ordering_then r (simplex_cmp [] s)) ≡ true) [
          | Less ↦ λ e. refl
          | Equal ↦ λ e. least s
          | Greater ↦ λ e. absurd (apart e)
        ] refl
      where
        apart : nat_cmp n p.0 ≡ Greater → ⊥
        apart e = grind (arith, nat_tests)

    high_from : (n : ℕ) (s : List ℕ) → p.0 < n → not (is_le (ordering_then (nat_cmp n p.0) (simplex_cmp [] s))) ≡ true
    high_from n s h =
        elim (nat_cmp n p.0) as (λ r. nat_cmp n p.0 ≡ r → not (is_le (ordering_then r (simplex_cmp [] s))) ≡ true) [
          | Less ↦ λ e. absurd (less e)
          | Equal ↦ λ e. absurd (same e)
          | Greater ↦ λ e. refl
        ] refl
      where
        less : nat_cmp n p.0 ≡ Less → ⊥
        less e = grind (arith, nat_tests)

        same : nat_cmp n p.0 ≡ Equal → ⊥
        same e = grind (arith, nat_tests)

pub between_is : (v : ℕ) (xs : List Corner) → filter (λ p. is_le (corner_cmp (v, []) p) && not (is_le (corner_cmp (v + 1, []) p))) xs ≡ corners_at v xs
between_is v [] = refl
between_is v (x ∷ xs) = λ i. cond (at_label v x i) (x ∷ between_is v xs i) (between_is v xs i)

pub all_between : (xs : List Corner) → filter (λ p. true && not false) xs ≡ xs
all_between [] = refl
all_between (x ∷ xs) = ap (λ l. x ∷ l) (all_between xs)

-- ---- the facets with a simplex, from the pairs at one of its labels
firsts_same : (v : ℕ) (xs : List Corner) → is_increasing corner_cmp xs ≡ true → ((p : Corner) → In p xs → p.0 ≡ v) → is_increasing simplex_cmp (map (λ (p : Corner). p.1) xs) ≡ true
firsts_same v [] h f = refl
firsts_same v (x ∷ xs) h f =
    and_both _ _
    (all_from (λ t. is_lt (simplex_cmp x.1 t)) (map (λ (p : Corner). p.1) xs) (λ t i.
    let r = from_map (λ (p : Corner). p.1) t xs i in
    let l : is_lt (corner_cmp x r.0) ≡ true = all_at (λ y. is_lt (corner_cmp x y)) r.0 xs (and_left _ _ h) r.1 in
    let e : nat_cmp x.0 r.0.0 ≡ Equal = ap (λ n. nat_cmp n r.0.0) (f x first ∙ sym (f r.0 (later r.1))) ∙ tied_itself nat_cmp_total r.0.0 in
    ap (λ u. is_lt (simplex_cmp x.1 u)) r.2 ∙ sym (ap (λ o. is_lt (ordering_then o (simplex_cmp x.1 r.0.1))) e) ∙ l))
    (firsts_same v xs (and_right (list_all (λ y. is_lt (corner_cmp x y)) xs) _ h) (λ p i. f p (later i)))

-- the facets at a label, from the pairs there
pub at_is : (c : List (List ℕ)) (xs : List Corner) (v : ℕ) → is_increasing simplex_cmp c ≡ true → is_increasing corner_cmp xs ≡ true → AreCorners c xs
    → map (λ (p : Corner). p.1) (corners_at v xs) ≡ filter (λ s. has s v) c
at_is c xs v upc up are =
    same_sets nat_list_cmp_total exact (map (λ (p : Corner). p.1) (corners_at v xs)) (filter (λ s. has s v) c)
    (firsts_same v (corners_at v xs) (is_increasing-filter corner_cmp (λ p. p.0 == v) xs up) (λ p j. equal_at p.0 v (from_filter (λ q. q.0 == v) p xs j).1))
    (is_increasing-filter simplex_cmp (λ s. has s v) c upc)
    (λ s j. let r = from_map (λ (p : Corner). p.1) s (corners_at v xs) j in
    let m = from_filter (λ p. p.0 == v) r.0 xs r.1 in
    let q = are.from_corner r.0 m.0 in
    subst (λ t. In t (filter (λ s. has s v) c)) (sym r.2) (in_filter (λ s. has s v) r.0.1 c q.0 (has_from r.0.1 v (subst (λ n. In n r.0.1) (equal_at r.0.0 v m.1) q.1))))
    (λ s j. let q = from_filter (λ s. has s v) s c j in
    in_map (λ (p : Corner). p.1) (v, s) (corners_at v xs) (in_filter (λ p. p.0 == v) (v, s) xs (are.to_corner (v, s) q.0 (has_at s v q.1)) (equal_from v v refl)))

-- ---- what the facets at one of its labels tell of a simplex
pub with_at : (c : List (List ℕ)) (v : ℕ) (a : List ℕ) → In v a → facets_with (filter (λ s. has s v) c) a ≡ facets_with c a
with_at [] v a i = refl
with_at (s ∷ c) v a i =
    elim (has s v) as (λ h. has s v ≡ h → facets_with (cond h (s ∷ filter (λ s. has s v) c) (filter (λ s. has s v) c)) a ≡ facets_with (s ∷ c) a) [
      | true ↦ λ e k. cond (is_within a s) (s ∷ with_at c v a i k) (with_at c v a i k)
      | false ↦ λ e. with_at c v a i ∙ sym (ap (λ w. cond w (s ∷ facets_with c a) (facets_with c a)) (false_from (is_within a s) (λ w. true≢false (sym (has_from s v (within_in a s v w i)) ∙ e))))
    ] refl

pub counted_at : (c : List (List ℕ)) (v : ℕ) (a b : List ℕ) → In v a → is_counted_star (filter (λ s. has s v) c) a b ≡ is_counted_star c a b
counted_at c v a b i = ap (λ l. list_all (lies_in_join a b) l && (length l == length b)) (with_at c v a i)

pub face_at_label : (c : List (List ℕ)) (v : ℕ) (b : List ℕ) → In v b → is_face (filter (λ s. has s v) c) b ≡ is_face c b
face_at_label c v b i = agree _ _
    (λ h. let r = face_at (filter (λ s. has s v) c) b h in face_from c b r.0 (from_filter (λ s. has s v) r.0 c r.1).0 r.2)
    (λ h. let r = face_at c b h in face_from (filter (λ s. has s v) c) b r.0 (in_filter (λ s. has s v) r.0 c r.1 (has_from r.0 v (within_in b r.0 v r.2 i))) r.2)
