-- The facets of a complex, put in one after another.
use Rattle.std.proofs.Common.{◌≡◌, ℕ, zero, suc, ◌<◌, ◌+◌, true, false, List, [], ◌∷◌, length, take, get_or, refl, sym, ◌∙◌, subst, inl, inr, arith}
use mathlib.Core.Bool.{true≢false}
use Rattle.std.specs.Bool.{IsTrue}
use Rattle.std.specs.List.{list_all, list_any}
use Rattle.std.specs.Ordering.{is_lt}
use Rattle.std.proofs.Math.Numerals.{add-one}
use Rattle.std.proofs.lemmas.Cmp.{nat_list_cmp_total}
use Rattle.simplex.specs.InOrder.{is_increasing, put}
use Rattle.simplex.specs.Simplex.{is_same, is_within, simplex_cmp}
use Rattle.simplex.proofs.Decided.{false_from, not_from}
use Rattle.simplex.proofs.InOrderLaws.{and_left, and_right, and_both}
use Rattle.simplex.proofs.Members.{In, first, later, cases, none, any_at, all_at, all_from, same_sets}
use Rattle.facet_set.specs.Complex.{is_complex, is_face, is_maximal_in}
use Rattle.facet_set.proofs.ComplexLaws.{exact, face_at, maximal_at, same_from}
use Rattle.facet_set.proofs.FacetLaws.{below_apart}
use Rattle.facet_set.proofs.GeneratedLaws.{taken_in}
use Rattle.facet_set.proofs.SetLaws.{in_place}
use Rattle.face_lattice.proofs.ChangeLaws.{from_put, put_has, put_keeps, put_rises}

in_front : (c : List (List ℕ)) (i : ℕ) (s : List ℕ) → In s (take i c) → In s c
in_front c zero s j = absurd (none s j)
in_front [] (suc i) s j = absurd (none s j)
in_front (x ∷ c) (suc i) s j = elim (cases j) [ inl e ↦ subst (λ t. In t (x ∷ c)) (sym e) first | inr k ↦ later (in_front c i s k) ]

front_rises : (c : List (List ℕ)) (i : ℕ) → is_increasing simplex_cmp c ≡ true → is_increasing simplex_cmp (take i c) ≡ true
front_rises c zero h = refl
front_rises [] (suc i) h = refl
front_rises (x ∷ c) (suc i) h = and_both _ _ (all_from (λ y. is_lt (simplex_cmp x y)) (take i c) (λ y j. all_at (λ y. is_lt (simplex_cmp x y)) y c (and_left _ _ h) (in_front c i y j))) (front_rises c i (and_right (list_all (λ y. is_lt (simplex_cmp x y)) c) _ h))

not_before : (c : List (List ℕ)) (i : ℕ) (d : List ℕ) → is_increasing simplex_cmp c ≡ true → i < length c → In (get_or c i d) (take i c) → ⊥
not_before c zero d h l j = none _ j
not_before [] (suc i) d h l j = none _ j
not_before (x ∷ c) (suc i) d h l j = elim (cases j) [
  | inl e ↦ below_apart x (get_or c i d) (all_at (λ y. is_lt (simplex_cmp x y)) (get_or c i d) c (and_left _ _ h) (in_place c i d (omega (arith, l)))) (sym e)
  | inr k ↦ not_before c i d (and_right (list_all (λ y. is_lt (simplex_cmp x y)) c) _ h) (omega (arith, l)) k
]

module _ (c : List (List ℕ)) (i : ℕ) (d : List ℕ) (h : IsTrue (is_complex c)) (l : i < length c) where
  apart : (t : List ℕ) → In t (take i c) → is_same (get_or c i d) t ≡ true → ⊥
  apart t j e = not_before c i d (and_left _ _ h) l (subst (λ u. In u (take i c)) (sym (same_from (get_or c i d) t e)) j)

  -- the next facet is no face of those before it
  pub front_new : is_face (take i c) (get_or c i d) ≡ false
  front_new = false_from _ (λ f.
      let t = face_at (take i c) (get_or c i d) f in
      let small = maximal_at c (get_or c i d) t.0 (all_at (is_maximal_in c) (get_or c i d) c (and_right _ _ h) (in_place c i d l)) (in_front c i t.0 t.1) in
      true≢false (sym (and_both (is_within (get_or c i d) t.0) _ t.2 (not_from (is_same (get_or c i d) t.0) (apart t.0 t.1))) ∙ small))

  -- and contains none of them
  pub front_above : list_any (λ s. is_within s (get_or c i d)) (take i c) ≡ false
  front_above = false_from _ (λ f.
      let t = any_at (λ s. is_within s (get_or c i d)) (take i c) f in
      let small = maximal_at c t.0 (get_or c i d) (all_at (is_maximal_in c) t.0 c (and_right _ _ h) (in_front c i t.0 t.1)) (in_place c i d l) in
      true≢false (sym (and_both (is_within t.0 (get_or c i d)) _ t.2 (not_from (is_same t.0 (get_or c i d)) (λ e. not_before c i d (and_left _ _ h) l (subst (λ u. In u (take i c)) (same_from t.0 (get_or c i d) e) t.1)))) ∙ small))

  pub front_more : put simplex_cmp (get_or c i d) (take i c) ≡ take (i + 1) c
  front_more =
      let low = front_rises c i (and_left _ _ h) in
      same_sets nat_list_cmp_total exact (put simplex_cmp (get_or c i d) (take i c)) (take (i + 1) c) (put_rises (take i c) (get_or c i d) low) (front_rises c (i + 1) (and_left _ _ h))
      (λ s j. elim (from_put (take i c) (get_or c i d) low s j) [
        | inl e ↦ subst (λ u. In u (take (i + 1) c)) (sym e) (taken_here c i d l)
        | inr k ↦ subst (λ n. In s (take n c)) (sym (add-one i)) (taken_more c i s k)
      ])
      (λ s j. elim (taken_in c i d s l j) [
        | inl k ↦ put_keeps (take i c) (get_or c i d) low s k
        | inr e ↦ subst (λ u. In u (put simplex_cmp (get_or c i d) (take i c))) (sym e) (put_has (take i c) (get_or c i d) low)
      ])
    where
      taken_more : (c : List (List ℕ)) (i : ℕ) (s : List ℕ) → In s (take i c) → In s (take (suc i) c)
      taken_more c zero s k = absurd (none s k)
      taken_more [] (suc i) s k = absurd (none s k)
      taken_more (x ∷ c) (suc i) s k = elim (cases k) [ inl e ↦ subst (λ t. In t (take (suc (suc i)) (x ∷ c))) (sym e) first | inr m ↦ later (taken_more c i s m) ]

      taken_here : (c : List (List ℕ)) (i : ℕ) (d : List ℕ) → i < length c → In (get_or c i d) (take (i + 1) c)
      taken_here c i d l = subst (λ n. In (get_or c i d) (take n c)) (sym (add-one i)) (by c i l)
        where
          by : (c : List (List ℕ)) (i : ℕ) → i < length c → In (get_or c i d) (take (suc i) c)
          by [] i l = absurd (omega (arith, l))
          by (x ∷ c) zero l = first
          by (x ∷ c) (suc i) l = later (by c i (omega (arith, l)))
