-- The least label that is no vertex.
use Rattle.std.proofs.Common.{◌≡◌, ℕ, suc, ◌+◌, ◌≤◌, ◌<◌, Bool, true, false, cond, List, [], ◌∷◌, length, refl, sym, ap, ◌∙◌, subst, ◌⊎◌, inl, inr, arith, leb, ltb, Some, None}
use Rattle.std.specs.Prelude.{◌==◌}
use Rattle.std.specs.Bool.{IsTrue}
use Rattle.std.specs.List.{list_all, flat_map}
use Rattle.std.proofs.lemmas.Bool.Decides.{nat_tests}
use Rattle.std.proofs.lemmas.Cmp.{nat_cmp_total}
use Rattle.simplex.specs.Simplex.{is_label, is_simplex, label_limit}
use Rattle.simplex.proofs.InOrderLaws.{and_left, and_right, and_both, is_increasing-in_order}
use Rattle.simplex.proofs.Members.{In, first, later, cases, none, all_at}
use Rattle.simplex.proofs.SimplexLaws.{above_at, rest_increasing}
use Rattle.simplex.proofs.Decided.{equal_at}
use Rattle.facet_set.specs.Complex.{verts}
use Rattle.facet_set.specs.Flips.{fresh, least_missing}
use Rattle.facet_set.specs.FreshLaws.{IsLeastFree, FreshOf, FreshIsLeast}
use Rattle.facet_set.proofs.ComplexLaws.{is_set}
use Rattle.facet_set.proofs.VertexLaws.{verts_labels}

differ : (m n : ℕ) → (m == n) ≡ false → m ≡ n → ⊥
differ m n e f = grind (arith, nat_tests)

-- ---- the least number from n on that is not in a set

pub missing_low : (n : ℕ) (vs : List ℕ) → n ≤ least_missing n vs
missing_low n [] = omega arith
missing_low n (v ∷ vs) = by (n == v) (missing_low (n + 1) vs)
  where
    by : (w : Bool) → n + 1 ≤ least_missing (n + 1) vs → n ≤ cond w (least_missing (n + 1) vs) n
    by true l = omega arith
    by false l = omega arith

-- it is no member
pub missing_out : (n : ℕ) (vs : List ℕ) → is_set vs ≡ true → ((v : ℕ) → In v vs → n ≤ v) → In (least_missing n vs) vs → ⊥
missing_out n [] h f = λ i. none n i
missing_out n (v ∷ vs) h f =
    elim (n == v) as (λ w. (n == v) ≡ w → In (cond w (least_missing (n + 1) vs) n) (v ∷ vs) → ⊥) [
      | true ↦ λ e i.
          let k = equal_at n v e in
          let m = missing_low (n + 1) vs in
          elim (cases i) [
            | inl q ↦ absurd (omega arith)
            | inr j ↦ missing_out (n + 1) vs (rest_increasing v vs h) (λ u i. let l = above_at v vs u h i in omega arith) j
          ]
      | false ↦ λ e i. elim (cases i) [ inl q ↦ differ n v e q | inr j ↦ (let l = above_at v vs n h j in let m = f v first in absurd (omega arith)) ]
    ] refl

-- and each number below it is
pub missing_in : (n : ℕ) (vs : List ℕ) (b : ℕ) → n ≤ b → b < least_missing n vs → In b vs
missing_in n [] b l h = absurd (omega arith)
missing_in n (v ∷ vs) b l h = by (λ k g. missing_in (n + 1) vs b k g) (n == v) refl h
  where
    here : (n + 1 ≤ b → b < least_missing (n + 1) vs → In b vs) → n ≡ v → (t : Bool) → (b == v) ≡ t → b < least_missing (n + 1) vs → In b (v ∷ vs)
    here rest k true e g = subst (λ x. In x (v ∷ vs)) (sym (equal_at b v e)) first
    here rest k false e g = later (rest (above (differ b v e)) g)
      where
        above : (b ≡ v → ⊥) → n + 1 ≤ b
        above d = elim (least b n l) [ inl q ↦ q | inr q ↦ absurd (d (q ∙ k)) ]
          where
            least : (b n : ℕ) → n ≤ b → (n + 1 ≤ b) ⊎ (b ≡ n)
            least b n l = grind (arith, nat_tests)

    by : (n + 1 ≤ b → b < least_missing (n + 1) vs → In b vs) → (w : Bool) → (n == v) ≡ w → b < cond w (least_missing (n + 1) vs) n → In b (v ∷ vs)
    by rest true e g = here rest (equal_at n v e) (b == v) refl g
    by rest false e g = absurd (omega arith)

-- ---- the fresh label

module _ (c : List (List ℕ)) (simple : list_all is_simplex c ≡ true) where
  n : ℕ
  n = least_missing 1 (verts c)

  set : is_set (verts c) ≡ true
  set = is_increasing-in_order nat_cmp_total (flat_map (λ s. s) c)

  label_low : (x : ℕ) → is_label x ≡ true → 1 ≤ x
  label_low x h = let k = and_left (leb 1 x) _ h in grind (arith, nat_tests)

  label_high : (x : ℕ) → is_label x ≡ true → x ≤ label_limit
  label_high x h = let k = and_right (leb 1 x) _ h in grind (arith, nat_tests)

  label_from : (x : ℕ) → 1 ≤ x → x ≤ label_limit → is_label x ≡ true
  label_from x l h = and_both _ _ low high
    where
      low : leb 1 x ≡ true
      low = grind (arith, nat_tests)

      high : leb x label_limit ≡ true
      high = grind (arith, nat_tests)

  low : 1 ≤ least_missing 1 (verts c)
  low = missing_low 1 (verts c)

  out : In (least_missing 1 (verts c)) (verts c) → ⊥
  out = missing_out 1 (verts c) set (λ v i. label_low v (all_at is_label v (verts c) (verts_labels c simple) i))

  below : (b : ℕ) → is_label b ≡ true → b < least_missing 1 (verts c) → In b (verts c)
  below b l h = missing_in 1 (verts c) b (label_low b l) h

  fresh_by : (w : Bool) → leb (least_missing 1 (verts c)) label_limit ≡ w → fresh c ≡ cond w (Some (least_missing 1 (verts c))) None
  fresh_by w e = ap (λ v. cond v (Some (least_missing 1 (verts c))) None) e

  some_to : (a : ℕ) → fresh c ≡ Some a → IsLeastFree c a
  some_to a f = by (leb (least_missing 1 (verts c)) label_limit) refl
    where
      is : (a : ℕ) → least_missing 1 (verts c) ≡ a → least_missing 1 (verts c) ≤ label_limit → IsLeastFree c a
      is a e h =
          record {
            label = subst (λ x. is_label x ≡ true) e (label_from (least_missing 1 (verts c)) low h);
            free = subst (λ x. In x (verts c) → ⊥) e out;
            least = λ b l g. below b l (subst (λ x. b < x) (sym e) g);
          }

      by : (w : Bool) → leb (least_missing 1 (verts c)) label_limit ≡ w → IsLeastFree c a
      by true e = is a same within
        where
          within : least_missing 1 (verts c) ≤ label_limit
          within = grind (arith, nat_tests)

          both : Some (least_missing 1 (verts c)) ≡ Some a
          both = sym (fresh_by true e) ∙ f

          same : least_missing 1 (verts c) ≡ a
          same = cc
      by false e = apart (sym (fresh_by false e) ∙ f)
        where
          apart : None ≡ Some a → IsLeastFree c a
          apart h = cc

  some_from : (a : ℕ) → IsLeastFree c a → fresh c ≡ Some a
  some_from a r = ap (λ v. cond v (Some (least_missing 1 (verts c))) None) within ∙ ap (λ x. Some x) same
    where
      high : a ≤ label_limit
      high = label_high a r.label

      not_above : least_missing 1 (verts c) < a → ⊥
      not_above h = out (r.least (least_missing 1 (verts c)) (label_from (least_missing 1 (verts c)) low (let k = high in omega (arith, h, k))) h)

      not_below : a < least_missing 1 (verts c) → ⊥
      not_below h = r.free (below a r.label h)

      split : (x y : ℕ) → (x < y → ⊥) → (y < x → ⊥) → x ≡ y
      split x y p q = elim (three x y) [ inl h ↦ absurd (p h) | inr h ↦ elim h [ inl e ↦ e | inr g ↦ absurd (q g) ] ]
        where
          three : (x y : ℕ) → (x < y) ⊎ ((x ≡ y) ⊎ (y < x))
          three x y = grind (arith, nat_tests)

      same : least_missing 1 (verts c) ≡ a
      same = split (least_missing 1 (verts c)) a not_above not_below

      within : leb (least_missing 1 (verts c)) label_limit ≡ true
      within = let s = same in let k = high in let h : least_missing 1 (verts c) ≤ label_limit = omega (arith, s, k) in grind (arith, nat_tests)

  none_to : fresh c ≡ None → (b : ℕ) → is_label b ≡ true → In b (verts c)
  none_to f b l = by (leb (least_missing 1 (verts c)) label_limit) refl
    where
      by : (w : Bool) → leb (least_missing 1 (verts c)) label_limit ≡ w → In b (verts c)
      by true e = apart (sym (fresh_by true e) ∙ f)
        where
          apart : Some (least_missing 1 (verts c)) ≡ None → In b (verts c)
          apart h = cc
      by false e = below b l above
        where
          high : b ≤ label_limit
          high = label_high b l

          above : b < least_missing 1 (verts c)
          above = grind (arith, nat_tests)

  none_from : ((b : ℕ) → is_label b ≡ true → In b (verts c)) → fresh c ≡ None
  none_from f = by (leb (least_missing 1 (verts c)) label_limit) refl
    where
      by : (w : Bool) → leb (least_missing 1 (verts c)) label_limit ≡ w → fresh c ≡ None
      by true e = absurd (out (f (least_missing 1 (verts c)) (label_from (least_missing 1 (verts c)) low within)))
        where
          within : least_missing 1 (verts c) ≤ label_limit
          within = grind (arith, nat_tests)
      by false e = fresh_by false e

pub fresh_is_least_lem : FreshIsLeast
fresh_is_least_lem c simple = record {
  some = λ a. (some_to c simple a, some_from c simple a);
  none = (none_to c simple, none_from c simple);
}
