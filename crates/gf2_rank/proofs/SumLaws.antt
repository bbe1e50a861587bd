-- The span of sets is the list of the symmetric differences of their sublists.
use Rattle.std.proofs.Common.{◌≡◌, Bool, true, false, ◌||◌, ℕ, List, [], ◌∷◌, ◌++◌, map, refl, ap, ◌∙◌, subst, inl, inr}
use Rattle.std.specs.Prelude.{not, ◌↔◌}
use Rattle.std.specs.Ordering.{nat_cmp}
use Rattle.std.specs.FinMap.{nat_cmp-IsAntisymmetric}
use Rattle.std.specs.List.{filter, Contains}
use Rattle.std.proofs.lemmas.Cmp.{nat_cmp_total}
use Rattle.simplex.specs.InOrder.{is_member, is_increasing}
use Rattle.simplex.proofs.InOrderLaws.{is_increasing-in_order, same_members}
use Rattle.simplex.proofs.Members.{In, first, cases, none, in_left, in_right, in_either, in_map, from_map, contains_in, in_contains}
use Rattle.simplex.proofs.Decided.{or_cases, or_right}
use Rattle.gf2_rank.specs.Laws.{sums}
use Rattle.gf2_rank.specs.Span.{is_empty, difference, is_in_span}
use Rattle.gf2_rank.proofs.SpanLaws.{odd, number_difference}

odd_around : (a b : Bool) → odd b (odd a b) ≡ a
odd_around true true = refl
odd_around true false = refl
odd_around false true = refl
odd_around false false = refl

odd_before : (a b : Bool) → odd (odd b a) b ≡ a
odd_before true true = refl
odd_before true false = refl
odd_before false true = refl
odd_before false false = refl

rising_d : (s t : List ℕ) → is_increasing nat_cmp (difference nat_cmp s t) ≡ true
rising_d s t = is_increasing-in_order nat_cmp_total (filter (λ x. not (is_member nat_cmp x t)) s ++ filter (λ x. not (is_member nat_cmp x s)) t)

around : (s t : List ℕ) → is_increasing nat_cmp s ≡ true → difference nat_cmp t (difference nat_cmp s t) ≡ s
around s t h =
    same_members nat_cmp_total nat_cmp-IsAntisymmetric (difference nat_cmp t (difference nat_cmp s t)) s (rising_d t (difference nat_cmp s t)) h
    (λ q. number_difference q t (difference nat_cmp s t) ∙ ap (odd (is_member nat_cmp q t)) (number_difference q s t) ∙ odd_around (is_member nat_cmp q s) (is_member nat_cmp q t))

before : (s t : List ℕ) → is_increasing nat_cmp s ≡ true → difference nat_cmp (difference nat_cmp t s) t ≡ s
before s t h =
    same_members nat_cmp_total nat_cmp-IsAntisymmetric (difference nat_cmp (difference nat_cmp t s) t) s (rising_d (difference nat_cmp t s) t) h
    (λ q. number_difference q (difference nat_cmp t s) t ∙ ap (λ v. odd v (is_member nat_cmp q t)) (number_difference q t s) ∙ odd_before (is_member nat_cmp q s) (is_member nat_cmp q t))

in_sums : (ts : List (List ℕ)) (s : List ℕ) → is_increasing nat_cmp s ≡ true → is_in_span nat_cmp ts s ≡ true → In s (sums ts)
in_sums [] [] h k = first
in_sums [] (x ∷ s) h k = cc
in_sums (t ∷ ts) s h k =
    elim (or_cases (is_in_span nat_cmp ts s) (is_in_span nat_cmp ts (difference nat_cmp s t)) k) [
      | inl a ↦ in_left s (sums ts) (map (difference nat_cmp t) (sums ts)) (in_sums ts s h a)
      | inr a ↦ in_right s (sums ts) (map (difference nat_cmp t) (sums ts))
          (subst (λ z. In z (map (difference nat_cmp t) (sums ts))) (around s t h)
          (in_map (difference nat_cmp t) (difference nat_cmp s t) (sums ts) (in_sums ts (difference nat_cmp s t) (rising_d s t) a)))
    ]

rising_sum : (ts : List (List ℕ)) (s : List ℕ) → In s (sums ts) → is_increasing nat_cmp s ≡ true
rising_sum [] s i = elim (cases i) [ inl e ↦ ap (is_increasing nat_cmp) e | inr j ↦ absurd (none s j) ]
rising_sum (t ∷ ts) s i =
    elim (in_either s (sums ts) (map (difference nat_cmp t) (sums ts)) i) [
      | inl j ↦ rising_sum ts s j
      | inr j ↦ let at = from_map (difference nat_cmp t) s (sums ts) j in ap (is_increasing nat_cmp) at.2 ∙ rising_d t at.0
    ]

from_sums : (ts : List (List ℕ)) (s : List ℕ) → In s (sums ts) → is_in_span nat_cmp ts s ≡ true
from_sums [] s i = elim (cases i) [ inl e ↦ ap is_empty e | inr j ↦ absurd (none s j) ]
from_sums (t ∷ ts) s i =
    elim (in_either s (sums ts) (map (difference nat_cmp t) (sums ts)) i) [
      | inl j ↦ ap (λ v. v || is_in_span nat_cmp ts (difference nat_cmp s t)) (from_sums ts s j)
      | inr j ↦
          let at = from_map (difference nat_cmp t) s (sums ts) j in
          or_right (is_in_span nat_cmp ts s) (is_in_span nat_cmp ts (difference nat_cmp s t))
          (ap (λ z. is_in_span nat_cmp ts (difference nat_cmp z t)) at.2 ∙ ap (is_in_span nat_cmp ts) (before at.0 t (rising_sum ts at.0 at.1)) ∙ from_sums ts at.0 at.1)
    ]

pub sums_lem : (ts : List (List ℕ)) (s : List ℕ) → is_increasing nat_cmp s ≡ true → (is_in_span nat_cmp ts s ≡ true) ↔ Contains (sums ts) s
sums_lem ts s h = (λ k. in_contains (sums ts) s (in_sums ts s h k), λ k. from_sums ts s (contains_in (sums ts) s k))
