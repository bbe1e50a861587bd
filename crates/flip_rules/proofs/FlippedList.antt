-- The list that a flip leaves.
use Rattle.std.proofs.Common.{◌≡◌, ℕ, ◌+◌, ◌<◌, true, not, List, [], ◌∷◌, ◌++◌, map, length, take, drop, get_or, refl, sym, ap, ◌∙◌, subst, ◌⊎◌, inl, inr}
use Rattle.std.specs.List.{list_all, filter, insert}
use Rattle.std.proofs.lemmas.List.{take-append-drop}
use Rattle.simplex.specs.Simplex.{is_within, union, without, is_simplex}
use Rattle.simplex.proofs.Members.{In, later, cases, at_head, none, in_left, in_right, in_either}
use Rattle.simplex.proofs.Decided.{none_fails, all_pass}
use Rattle.facet_set.specs.Complex.{generated, is_complex}
use Rattle.facet_set.specs.Flips.{allowed, ball, flip, flip_parts}
use Rattle.facet_set.proofs.ComplexLaws.{in_simplices, from_simplices, generated_same, generated_again}
use Rattle.facet_set.proofs.FlipLaws.{parts_of, complex_after, flips_back_lem}
use Rattle.flip_rules.specs.declared.flip_fault.FlipFault.TheVariants.{NotPure, Size, Overlap, Star, Present}
use Rattle.facet_set.proofs.SetLaws.{map_more}
use Rattle.flip_rules.specs.Members.{HasBoth}
use Rattle.flip_rules.specs.Undone.{IsUndone}

-- ---- lists known by their members
pub both_at_first : (xs ys : List (List ℕ)) → ys ≡ xs → HasBoth xs ys []
both_at_first xs ys e t = (λ i. inl (subst (λ l. In t l) (sym e) i), λ k. elim k [ inl i ↦ subst (λ l. In t l) e i | inr i ↦ absurd (none t i) ])

pub has_inserted : (xs more : List (List ℕ)) (k : ℕ) (s : List ℕ) → more ≡ insert xs k s → HasBoth more xs (s ∷ [])
has_inserted xs more k s e t = (there, back)
  where
    there : In t more → In t xs ⊎ In t (s ∷ [])
    there i = elim (in_either t (take k xs) (s ∷ drop k xs) (subst (λ l. In t l) e i)) [
      | inl j ↦ inl (subst (λ l. In t l) (take-append-drop k xs) (in_left t (take k xs) (drop k xs) j))
      | inr j ↦ elim (cases j) [
        | inl f ↦ inr (at_head t s [] f)
        | inr l ↦ inl (subst (λ l. In t l) (take-append-drop k xs) (in_right t (take k xs) (drop k xs) l))
      ]
    ]

    back : In t xs ⊎ In t (s ∷ []) → In t more
    back (inl i) = subst (λ l. In t l) (sym e) (elim (in_either t (take k xs) (drop k xs) (subst (λ l. In t l) (sym (take-append-drop k xs)) i)) [
      | inl j ↦ in_left t (take k xs) (s ∷ drop k xs) j
      | inr j ↦ in_right t (take k xs) (s ∷ drop k xs) (later j)
    ])
    back (inr i) = subst (λ l. In t l) (sym e) (in_right t (take k xs) (s ∷ drop k xs) (elim (cases i) [ inl f ↦ at_head t s (drop k xs) f | inr n ↦ absurd (none t n) ]))

pub both_more : (f : ℕ → List ℕ) (a items : List ℕ) (before list more : List (List ℕ)) (i : ℕ) (next : List ℕ) → items ≡ a → i < length items → next ≡ f (get_or items i 0)
    → HasBoth list before (map f (take i a)) → HasBoth more list (next ∷ []) → HasBoth more before (map f (take (i + 1) a))
both_more f a items before list more i next same h e old new t = (there, back)
  where
    grown : map f (take i a) ++ f (get_or a i 0) ∷ [] ≡ map f (take (i + 1) a)
    grown = map_more f a i (get_or a i 0) 0 (subst (λ l. i < length l) same h) refl

    next_is : next ≡ f (get_or a i 0)
    next_is = e ∙ ap (λ l. f (get_or l i 0)) same

    there : In t more → In t before ⊎ In t (map f (take (i + 1) a))
    there k = elim ((new t).0 k) [
      | inl j ↦ elim ((old t).0 j) [ inl b ↦ inl b | inr m ↦ inr (subst (λ l. In t l) grown (in_left t (map f (take i a)) _ m)) ]
      | inr j ↦ inr (subst (λ l. In t l) grown (in_right t (map f (take i a)) _ (subst (λ x. In t (x ∷ [])) next_is j)))
    ]

    back : In t before ⊎ In t (map f (take (i + 1) a)) → In t more
    back (inl b) = (new t).1 (inl ((old t).1 (inl b)))
    back (inr m) = elim (in_either t (map f (take i a)) (f (get_or a i 0) ∷ []) (subst (λ l. In t l) (sym grown) m)) [
      | inl j ↦ (new t).1 (inl ((old t).1 (inr j)))
      | inr j ↦ (new t).1 (inr (subst (λ x. In t (x ∷ [])) (sym next_is) j))
    ]

-- the facets that stay and those that come, in any order, are those after the flip
pub generated-flip : (c l : List (List ℕ)) (a b : List ℕ) → list_all is_simplex c ≡ true → is_complex c ≡ true → is_simplex a ≡ true → is_simplex b ≡ true → allowed c a b ≡ true
    → HasBoth l (filter (λ s. not (is_within a s)) c) (map (λ x. union b (without a x)) a) → generated l ≡ flip c a b
generated-flip c l a b simple cx sa sb ok both =
    generated_same l (flip c a b)
    (λ s i. in_simplices s (filter (λ s. not (is_within a s)) c ++ ball b a) (elim ((both s).0 i) [
      | inl j ↦ in_left s (filter (λ s. not (is_within a s)) c) (ball b a) j
      | inr j ↦ in_right s (filter (λ s. not (is_within a s)) c) (ball b a) (in_simplices s (map (λ x. union b (without a x)) a) j)
    ]))
    (λ s i. (both s).1 (elim (in_either s (filter (λ s. not (is_within a s)) c) (ball b a) (from_simplices s (filter (λ s. not (is_within a s)) c ++ ball b a) i)) [
      | inl j ↦ inl j
      | inr j ↦ inr (from_simplices s (map (λ x. union b (without a x)) a) j)
    ]))
    ∙ generated_again (flip c a b) (complex_after c a b simple cx sa sb (parts_of c a b ok))

pub undone : IsUndone
undone c m simple cx sa sb h =
    let back = flips_back_lem c m.a m.b simple cx sa sb (none_fails (flip_parts c m.a m.b) (NotPure ∷ Size ∷ Overlap ∷ Star ∷ Present ∷ []) refl h) in
    (all_pass (flip_parts (flip c m.a m.b) m.b m.a) (NotPure ∷ Size ∷ Overlap ∷ Star ∷ Present ∷ []) back.0, back.1)
