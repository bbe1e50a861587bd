-- What the readings of a list of facets come to.
use Rattle.std.proofs.Common.{◌≡◌, ℕ, zero, suc, ◌<◌, true, false, ltb, List, [], ◌∷◌, ◌++◌, length, get_or, refl, sym, ap, ◌∙◌, subst, inl, inr, arith, add-one}
use mathlib.Core.Bool.{true≢false}
use Rattle.std.specs.Bool.{IsTrue}
use Rattle.std.specs.Prelude.{Result, Ok, Err, is_ok}
use Rattle.std.specs.Ordering.{is_lt}
use Rattle.std.specs.declared.cmp.Ordering.{Ordering}
use Rattle.std.specs.declared.cmp.Ordering.TheVariants.{Less, Equal, Greater}
use Rattle.std.specs.Cmp.Lexicographic.{pointwise}
use Rattle.std.specs.List.{list_all, filter}
use Rattle.std.specs.List.Sorted.{IsSortedBy, IsBinarySearchResult, IsSearchInRange}
use Rattle.std.proofs.lemmas.Cmp.{nat_list_cmp_total, tied_itself}
use Rattle.std.proofs.lemmas.List.Sorted.{searchable_from_sorted}
use Rattle.std.proofs.lemmas.Bool.Decides.{nat_tests}
use Rattle.simplex.specs.InOrder.{is_increasing}
use Rattle.simplex.specs.Simplex.{is_simplex, simplex_cmp}
use Rattle.simplex.proofs.InOrderLaws.{and_left, and_right, and_both, itself}
use Rattle.simplex.proofs.Members.{In, first, later, in_either, at_head, in_contains, is_member_from, is_member_at, all_at, all_from, from_filter}
use Rattle.simplex.proofs.Decided.{false_from}
use Rattle.facet_set.specs.Complex.{simplices, stands_in, generated, is_maximal_in, is_complex}
use Rattle.facet_set.specs.Facets.{IsFacets}
use Rattle.facet_set.proofs.ComplexLaws.{exact, is_complex-generated, generated_again}
use Rattle.facet_set.proofs.GeneratedLaws.{same, same_at, same_is, generated_is}

-- ---- what is generated
pub generated_items : (list m items : List (List ℕ)) → m ≡ simplices list → items ≡ filter (is_maximal_in m) m → items ≡ generated list
generated_items list m items e f = f ∙ ap (λ l. filter (is_maximal_in l) l) e ∙ generated_is list

pub generated_facets : (list m items : List (List ℕ)) → m ≡ simplices list → items ≡ filter (is_maximal_in m) m → IsTrue (list_all is_simplex m) → IsFacets items
generated_facets list m items e f h = record {
  simplices = all_from is_simplex items (λ s i. all_at is_simplex s m h (from_filter (is_maximal_in m) s m (subst (λ l. In s l) f i)).0);
  complex = ap is_complex (generated_items list m items e f) ∙ is_complex-generated list;
}

-- ---- lists of simplices that are equal
pub lists_at : (c d : List (List ℕ)) → pointwise same c d ≡ true → c ≡ d
lists_at [] [] h = refl
lists_at [] (t ∷ d) h = cc
lists_at (s ∷ c) [] h = cc
lists_at (s ∷ c) (t ∷ d) h = let p = same_at s t (and_left (same s t) _ h) in let q = lists_at c d (and_right (same s t) _ h) in cc

pub lists_itself : (c : List (List ℕ)) → pointwise same c c ≡ true
lists_itself [] = refl
lists_itself (s ∷ c) = and_both _ _ (same_is s s ∙ itself nat_list_cmp_total s) (lists_itself c)

pub exact_at : (list facets : List (List ℕ)) → facets ≡ generated list → pointwise same facets list ≡ true → (IsTrue (is_complex list)) × (facets ≡ list)
exact_at list facets e h = let f = lists_at facets list h in (ap is_complex (sym f ∙ e) ∙ is_complex-generated list, f)

pub exact_not : (list facets : List (List ℕ)) → facets ≡ generated list → pointwise same facets list ≡ false → IsTrue (is_complex list) → ⊥
exact_not list facets e h k = true≢false (sym (ap (λ l. pointwise same l list) (e ∙ generated_again list k) ∙ lists_itself list) ∙ h)

-- ---- lists in increasing order
pub rising_join : (xs ys : List (List ℕ)) → is_increasing simplex_cmp xs ≡ true → is_increasing simplex_cmp ys ≡ true → ((x y : List ℕ) → In x xs → In y ys → is_lt (simplex_cmp x y) ≡ true) → is_increasing simplex_cmp (xs ++ ys) ≡ true
rising_join [] ys h k f = k
rising_join (x ∷ xs) ys h k f =
    and_both _ _ (all_from (λ y. is_lt (simplex_cmp x y)) (xs ++ ys) (λ y i. elim (in_either y xs ys i) [
      | inl j ↦ all_at (λ y. is_lt (simplex_cmp x y)) y xs (and_left _ _ h) j
      | inr j ↦ f x y first j
    ]))
    (rising_join xs ys (and_right (list_all (λ y. is_lt (simplex_cmp x y)) xs) _ h) k (λ y z i j. f y z (later i) j))

-- ---- binary search
in_at : (c : List (List ℕ)) (k : ℕ) (s : List ℕ) → k < length c → get_or c k s ≡ s → In s c
in_at [] k s h e = absurd (omega arith)
in_at (t ∷ c) zero s h e = at_head s t c (sym e)
in_at (t ∷ c) (suc k) s h e = later (in_at c k s (omega arith) e)

pub not_below_itself : (s : List ℕ) → is_lt (simplex_cmp s s) ≡ true → ⊥
not_below_itself s h = true≢false (sym h ∙ ap is_lt (tied_itself nat_list_cmp_total s))

pub below_apart : (s t : List ℕ) → is_lt (simplex_cmp s t) ≡ true → s ≡ t → ⊥
below_apart s t h e = not_below_itself s (ap (λ x. is_lt (simplex_cmp s x)) e ∙ h)

pub not_less : (s t : List ℕ) → is_lt (simplex_cmp s t) ≡ true → is_lt (simplex_cmp t s) ≡ false
not_less s t h = false_from _ (λ k. clash (sym (tied_itself nat_list_cmp_total s) ∙ nat_list_cmp_total.trans s t s (less _ h) (less _ k)))
  where
    less : (r : Ordering) → is_lt r ≡ true → r ≡ Less
    less Less e = refl
    less Equal e = cc
    less Greater e = cc

    clash : Equal ≡ Less → ⊥
    clash e = cc

pub adjacent : (c : List (List ℕ)) (k : ℕ) (d : List ℕ) → is_increasing simplex_cmp c ≡ true → suc k < length c → is_lt (simplex_cmp (get_or c (suc k) d) (get_or c k d)) ≡ false
adjacent [] k d h n = absurd (omega arith)
adjacent (x ∷ []) k d h n = absurd (omega arith)
adjacent (x ∷ y ∷ c) zero d h n = not_less x y (and_left (is_lt (simplex_cmp x y)) _ (and_left _ _ h))
adjacent (x ∷ y ∷ c) (suc k) d h n = adjacent (y ∷ c) k d (and_right (list_all (λ z. is_lt (simplex_cmp x z)) (y ∷ c)) _ h) (omega arith)

pub sorted : (c : List (List ℕ)) → is_increasing simplex_cmp c ≡ true → IsSortedBy (λ a b. is_lt (simplex_cmp a b)) c
sorted c h = λ k d z n. ap (λ j. is_lt (simplex_cmp (get_or c j d) (get_or c k d))) (add-one k) ∙ adjacent c k d h (omega arith)

pub found_is : (c : List (List ℕ)) (s : List ℕ) (r : Result ℕ ℕ) → is_increasing simplex_cmp c ≡ true → IsSearchInRange r (length c) → IsBinarySearchResult (λ y. simplex_cmp y s) c r → is_ok r ≡ stands_in c s
found_is c s (Ok i) up range h = sym (is_member_from nat_list_cmp_total exact s c (in_at c i s range (exact (get_or c i s) s (h s))))
found_is c s (Err i) up range h = sym (false_from (stands_in c s) (λ t.
    let r = in_contains c s (is_member_at nat_list_cmp_total exact s c t) in
    let parts = h (searchable_from_sorted nat_list_cmp_total (λ x. x) c s (sorted c up)) in
    let tie : simplex_cmp (get_or c r.0 s) s ≡ Equal = ap (λ x. simplex_cmp x s) r.2 ∙ tied_itself nat_list_cmp_total s in
    elim (ltb r.0 i) as (λ v. ltb r.0 i ≡ v → ⊥) [
      | true ↦ λ e. less_not (sym tie ∙ parts.0 r.0 s (omega arith) (grind (arith, nat_tests)))
      | false ↦ λ e. greater_not (sym tie ∙ parts.1 r.0 s (grind (arith, nat_tests)) r.1)
    ] refl))
  where
    less_not : Equal ≡ Less → ⊥
    less_not e = cc

    greater_not : Equal ≡ Greater → ⊥
    greater_not e = cc
