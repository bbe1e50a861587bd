-- Laws of the facets that are placed.
use Rattle.std.proofs.Common.{◌≡◌, ℕ, ◌+◌, ◌*◌, ◌^◌, ◌≤◌, ◌<◌, true, false, ◌&&◌, ◌||◌, List, [], ◌∷◌, ◌++◌, length, get_or, nat_lt, refl, sym, ap, ◌∙◌, subst, inl, inr, arith}
use Rattle.std.specs.Prelude.{◌==◌, Option, Some, None, IfSome, is_some}
use Rattle.std.proofs.lemmas.Bool.Decides.{nat_tests}
use Rattle.simplex.specs.Simplex.{is_within}
use Rattle.simplex.proofs.Decided.{false_from, false_at, equal_at, equal_itself, or_cases, or_left, or_right}
use Rattle.simplex.proofs.InOrderLaws.{and_left, and_right, and_both}
use Rattle.simplex.proofs.Members.{In, first, cases, none, in_left, in_right, in_either}
use Rattle.facet_set.specs.Complex.{is_face}
use Rattle.facet_set.proofs.ComplexLaws.{face_at, face_from}
use Rattle.shellings.specs.declared.placement.Placement.{Placement}
use Rattle.shellings.specs.Places.{is_one}
use Rattle.shellings.specs.Placement.{ArePlaced, IsFitting, IsPlacement, IsSearched}
use Rattle.shellings.specs.Stars.{AreShaped, AreStars}

pub below_more : (k n : ℕ) → ((k == n) || nat_lt k n) ≡ nat_lt k (n + 1)
below_more k n = grind (arith, nat_tests)

pub placed_none : (c : List (List ℕ)) (places : List ℕ) → ((k : ℕ) → is_one places k ≡ false) → ArePlaced c [] places
placed_none c places f = record { there = λ k h. absurd (false_at (is_one places k) (f k) h); each = λ s i. absurd (none s i) }

pub placed_more : (c l : List (List ℕ)) (places next : List ℕ) (place : ℕ) (f : List ℕ) → ArePlaced c l places → f ≡ get_or c place [] → ((k : ℕ) → is_one next k ≡ ((k == place) || is_one places k)) → ArePlaced c (l ++ f ∷ []) next
placed_more c l places next place f h e n = record {
  there = λ k i. elim (or_cases (k == place) (is_one places k) (sym (n k) ∙ i)) [
    | inl q ↦ subst (λ s. In s (l ++ f ∷ [])) (e ∙ ap (λ j. get_or c j []) (sym (equal_at k place q))) (in_right f l (f ∷ []) first)
    | inr q ↦ in_left (get_or c k []) l (f ∷ []) (h.there k q)
  ];
  each = λ s i. elim (in_either s l (f ∷ []) i) [
    | inl j ↦ let r = h.each s j in (r.0, n r.0 ∙ or_right (r.0 == place) (is_one places r.0) r.1, r.2)
    | inr j ↦ elim (cases j) [
      | inl q ↦ (place, n place ∙ or_left (place == place) (is_one places place) (equal_itself place), sym e ∙ sym q)
      | inr q ↦ absurd (none s q)
    ]
  ];
}

-- ---- what is covered
pub covered_at : (c l : List (List ℕ)) (places found : List ℕ) (s : List ℕ) (r : ℕ) → ArePlaced c l places → ((k : ℕ) → is_one found k ≡ (is_one places k && is_within s (get_or c k []))) → is_one found r ≡ true → is_face l s ≡ true
covered_at c l places found s r h f e =
    let both = sym (f r) ∙ e in
    face_from l s (get_or c r []) (h.there r (and_left (is_one places r) (is_within s (get_or c r [])) both)) (and_right (is_one places r) (is_within s (get_or c r [])) both)

pub not_covered : (c l : List (List ℕ)) (places found : List ℕ) (s : List ℕ) → ArePlaced c l places → ((k : ℕ) → is_one found k ≡ (is_one places k && is_within s (get_or c k []))) → ((k : ℕ) → is_one found k ≡ false) → is_face l s ≡ false
not_covered c l places found s h f n = false_from (is_face l s) (λ e.
    let r = face_at l s e in
    let k = h.each r.0 r.1 in
    false_at (is_one found k.0) (n k.0) (f k.0 ∙ and_both (is_one places k.0) (is_within s (get_or c k.0 [])) k.1 (ap (is_within s) k.2 ∙ r.2)))

-- ---- after a search
pub still_fitting : (p q : Placement) → IsSearched p q → IsFitting p → IsFitting q
still_fitting p q h f = record {
  stars = subst (λ s. AreShaped s.labels s.sets.items (length q.all.words.items)) (sym h.stars) (subst (λ a. AreShaped p.stars.labels p.stars.sets.items (length a.words.items)) (sym h.all) f.stars);
  placed = ap (λ x. length x.words.items) h.placed ∙ f.placed ∙ ap (λ x. length x.words.items) (sym h.all);
  found = h.found ∙ f.found ∙ ap (λ x. length x.words.items) (sym h.all);
  few = subst (λ x. length x.words.items < 2 ^ 57) (sym h.all) f.few;
}

pub still_placement : (c : List (List ℕ)) (p q : Placement) → IsSearched p q → IsPlacement c p → IsPlacement c q
still_placement c p q h k = record {
  fitting = still_fitting p q h k.fitting;
  labels = ap (λ x. x.labels) h.stars ∙ k.labels;
  stars = subst (λ s. AreStars c s.labels s.sets.items) (sym h.stars) k.stars;
  all = λ n. ap (λ x. is_one x.words.items n) h.all ∙ k.all n;
  room = subst (λ x. length c ≤ 64 * length x.words.items) (sym h.all) k.room;
  placed = subst (λ x. ArePlaced c q.order x.words.items) (sym h.placed) (subst (λ l. ArePlaced c l p.placed.words.items) (sym h.order) k.placed);
}

pub searched_again : (p q r : Placement) → IsSearched p q → IsSearched q r → IsSearched p r
searched_again p q r h k = record { order = k.order ∙ h.order; stars = k.stars ∙ h.stars; all = k.all ∙ h.all; placed = k.placed ∙ h.placed; found = k.found ∙ h.found }

pub searched_none : (p : Placement) → IsSearched p p
searched_none p = record { order = refl; stars = refl; all = refl; placed = refl; found = refl }

pub covered_is : (c l : List (List ℕ)) (places found : List ℕ) (s : List ℕ) (o : Option ℕ) → ArePlaced c l places → ((k : ℕ) → is_one found k ≡ (is_one places k && is_within s (get_or c k [])))
    → IfSome o (λ r. (0 ≤ r) × (is_one found r ≡ true)) → (o ≡ None → (k : ℕ) → 0 ≤ k → is_one found k ≡ false) → is_some o ≡ is_face l s
covered_is c l places found s None h f g n = sym (not_covered c l places found s h f (λ k. n refl k (omega arith)))
covered_is c l places found s (Some r) h f g n = sym (covered_at c l places found s r h f g.1)
