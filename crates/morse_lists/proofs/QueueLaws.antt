-- Queues of faces, as heaps of faces with the numbers of their labels.
use Rattle.std.proofs.Common.{◌≡◌, ℕ, ◌≤◌, false, List, [], ◌∷◌, length, refl, sym, ap, ◌∙◌, subst, inl, inr, arith}
use mathlib.Core.Bool.{true≢false}
use Rattle.std.specs.Prelude.{◌↔◌, ◌⊎◌}
use Rattle.std.specs.BinaryHeap.{IsUpperBound}
use Rattle.std.specs.Cmp.{nat_cmp_is}
use Rattle.std.specs.List.{AllByRecursion}
use Rattle.std.specs.List.Sorted.{IsPermutation}
use Rattle.std.specs.Ordering.{is_lt, nat_cmp, ordering_reverse, ordering_then}
use Rattle.std.specs.declared.cmp.Ordering.{Ordering}
use Rattle.std.specs.declared.cmp.Ordering.TheVariants.{Less, Equal, Greater}
use Rattle.std.proofs.lemmas.Bool.{cases_lt}
use Rattle.std.proofs.lemmas.Cmp.{nat_list_cmp_total}
use Rattle.facet_set.proofs.ComplexLaws.{exact}
use Rattle.std.proofs.lemmas.List.Sorted.{Contains-permutation, IsPermutation-sym}
use Rattle.simplex.specs.Simplex.{simplex_cmp}
use Rattle.simplex.proofs.Members.{In, first, later, cases, none, in_map, from_map, contains_in, in_contains}
use Rattle.morse_lists.specs.Queues.{Rank, rank_cmp, faces_in, IsRanked, IsTakenFirst}

pub moved : {X : Type 0} (xs ys : List X) (x : X) → IsPermutation xs ys → In x xs → In x ys
moved xs ys x p i = contains_in ys x (Contains-permutation xs ys x p (in_contains xs x i))

pub moved_back : {X : Type 0} (xs ys : List X) (x : X) → IsPermutation xs ys → In x ys → In x xs
moved_back xs ys x p i = moved ys xs x (IsPermutation-sym xs ys p) i

-- one rank more
pub sizes_more : (r : Rank) (old new : List Rank) → IsPermutation (r ∷ old) new → r.0 ≡ length r.1.0 → ((q : Rank) → In q old → q.0 ≡ length q.1.0) → (q : Rank) → In q new → q.0 ≡ length q.1.0
sizes_more r old new p e f q i = elim (cases (moved_back (r ∷ old) new q p i)) [ inl g ↦ subst (λ x. x.0 ≡ length x.1.0) (sym g) e | inr j ↦ f q j ]

pub faces_more : (r : Rank) (old new : List Rank) → IsPermutation (r ∷ old) new → (t : List ℕ) → In t (faces_in new) ↔ ((t ≡ r.1.0) ⊎ In t (faces_in old))
faces_more r old new p t = (
  λ i. let q = from_map (λ x. x.1.0) t new i in elim (cases (moved_back (r ∷ old) new q.0 p q.1)) [
    | inl g ↦ inl (q.2 ∙ ap (λ x. x.1.0) g)
    | inr j ↦ inr (subst (λ u. In u (faces_in old)) (sym q.2) (in_map (λ x. x.1.0) q.0 old j))
  ],
  λ h. elim h [
    | inl g ↦ subst (λ u. In u (faces_in new)) (sym g) (in_map (λ x. x.1.0) r new (moved (r ∷ old) new r p first))
    | inr i ↦ let q = from_map (λ x. x.1.0) t old i in subst (λ u. In u (faces_in new)) (sym q.2) (in_map (λ x. x.1.0) q.0 new (moved (r ∷ old) new q.0 p (later q.1)))
  ],
)

-- one rank less
pub sizes_less : (r : Rank) (old new : List Rank) → IsPermutation old (r ∷ new) → ((q : Rank) → In q old → q.0 ≡ length q.1.0) → (q : Rank) → In q new → q.0 ≡ length q.1.0
sizes_less r old new p f q i = f q (moved_back old (r ∷ new) q p (later i))

pub faces_less : (r : Rank) (old new : List Rank) → IsPermutation old (r ∷ new) → (t : List ℕ) → In t (faces_in old) ↔ ((t ≡ r.1.0) ⊎ In t (faces_in new))
faces_less r old new p t = faces_more r new old (IsPermutation-sym old (r ∷ new) p) t

-- ---- what is not less than any other
at_all : {X : Type 0} (P : X → Type 0) (xs : List X) (x : X) → AllByRecursion P xs → In x xs → P x
at_all P [] x h i = absurd (none x i)
at_all P (y ∷ xs) x h i = elim (cases i) [ inl e ↦ subst P (sym e) h.0 | inr j ↦ at_all P xs x h.1 j ]

low : (a b : ℕ) (o : Ordering) → is_lt (ordering_then (nat_cmp a b) o) ≡ false → b ≤ a
low a b o h = elim (cases_lt a b) [
  | inl l ↦ let less : nat_cmp a b ≡ Less = sym (nat_cmp_is a b Less l) in absurd (true≢false (ap (λ r. is_lt (ordering_then r o)) (sym less) ∙ h))
  | inr l ↦ l
]

tied : (a b : ℕ) (o : Ordering) → is_lt (ordering_then (nat_cmp a b) o) ≡ false → b ≡ a → is_lt o ≡ false
tied a b o h e = let same : nat_cmp a b ≡ Equal = sym (nat_cmp_is a b Equal (sym e)) in ap (λ r. is_lt (ordering_then r o)) (sym same) ∙ h

pub taken_first : (r : Rank) (old : List Rank) → In r old → IsRanked old → IsUpperBound rank_cmp r old → IsTakenFirst r.1.0 (faces_in old)
taken_first r old here ranked upper = record {
  longest = λ t i.
      let q = from_map (λ x. x.1.0) t old i in
      let b = low r.0 q.0.0 (simplex_cmp q.0.1.0 r.1.0) (at_all (λ y. is_lt (rank_cmp r y) ≡ false) old q.0 upper q.1) in
      omega (arith, b, ranked.sizes r here, ranked.sizes q.0 q.1, ap length q.2);
  least = λ t i e.
      let q = from_map (λ x. x.1.0) t old i in
      let same : q.0.0 ≡ r.0 = omega (arith, ranked.sizes r here, ranked.sizes q.0 q.1, ap length q.2, e) in
      ap (λ u. is_lt (simplex_cmp u r.1.0)) q.2 ∙ tied r.0 q.0.0 (simplex_cmp q.0.1.0 r.1.0) (at_all (λ y. is_lt (rank_cmp r y) ≡ false) old q.0 upper q.1) same;
}

-- of which neither is less are one
pub unordered : (s t : List ℕ) → is_lt (simplex_cmp s t) ≡ false → is_lt (simplex_cmp t s) ≡ false → s ≡ t
unordered s t f g = by (simplex_cmp s t) refl f
  where
    by : (r : Ordering) → simplex_cmp s t ≡ r → is_lt r ≡ false → s ≡ t
    by Less e h = absurd (true≢false h)
    by Equal e h = exact s t e
    by Greater e h = absurd (true≢false (sym (ap is_lt (nat_list_cmp_total.antisymm t s ∙ ap ordering_reverse e)) ∙ g))
