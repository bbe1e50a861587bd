-- Places of labels in increasing lists.
use Rattle.std.proofs.Common.{◌≡◌, ℕ, zero, suc, ◌+◌, ◌<◌, true, false, cond, eqb, ltb, List, [], ◌∷◌, map, length, get_or, refl, sym, ap, ◌∙◌, subst, inl, inr, arith, add-one}
use mathlib.Core.Bool.{true≢false}
use Rattle.std.specs.Prelude.{Result, Ok, Err}
use Rattle.std.specs.Result.{result_unwrap_or}
use Rattle.std.specs.Ordering.{is_lt, nat_cmp}
use Rattle.std.specs.declared.cmp.Ordering.TheVariants.{Less, Equal, Greater}
use Rattle.std.specs.List.{list_all, range_with_len}
use Rattle.std.specs.List.Sorted.{IsSortedBy, IsBinarySearchResult, IsSearchInRange}
use Rattle.std.specs.FinMap.{nat_cmp-IsAntisymmetric}
use Rattle.std.proofs.lemmas.Cmp.{nat_cmp_total, tied_itself}
use Rattle.std.proofs.lemmas.List.Sorted.{searchable_from_sorted}
use Rattle.std.proofs.lemmas.Bool.Decides.{nat_tests}
use Rattle.simplex.specs.InOrder.{is_increasing}
use Rattle.simplex.specs.Members.{In, first, later}
use Rattle.simplex.proofs.InOrderLaws.{and_left, and_right}
use Rattle.simplex.proofs.Members.{cases, none, in_contains}
use Rattle.simplex.proofs.SimplexLaws.{above_at, rest_increasing}
use Rattle.simplex.proofs.Decided.{false_from, equal_at, equal_from}
use Rattle.local_parts.specs.Pairs.{place}

pub place_in : (vs : List ℕ) (a : ℕ) → In a vs → (place vs a < length vs) × (get_or vs (place vs a) 0 ≡ a)
place_in [] a i = absurd (none a i)
place_in (v ∷ vs) a i =
    elim (eqb v a) as (λ t. eqb v a ≡ t → (cond t 0 (suc (place vs a)) < length (v ∷ vs)) × (get_or (v ∷ vs) (cond t 0 (suc (place vs a))) 0 ≡ a)) [
      | true ↦ λ e. (omega arith, equal_at v a e)
      | false ↦ λ e. elim (cases i) [
        | inl f ↦ absurd (true≢false (sym (equal_from v a (sym f)) ∙ e))
        | inr j ↦ let r = place_in vs a j in (omega (arith, r.0), r.1)
      ]
    ] refl

place_out : (vs : List ℕ) (a : ℕ) → (In a vs → ⊥) → place vs a ≡ length vs
place_out [] a f = refl
place_out (v ∷ vs) a f =
    ap (λ t. cond t 0 (suc (place vs a))) (false_from (eqb v a) (λ t. f (subst (λ x. In x (v ∷ vs)) (equal_at v a t) first))) ∙ ap suc (place_out vs a (λ i. f (later i)))

in_at : (vs : List ℕ) (k d : ℕ) → k < length vs → In (get_or vs k d) vs
in_at [] k d h = absurd (omega arith)
in_at (v ∷ vs) zero d h = first
in_at (v ∷ vs) (suc k) d h = later (in_at vs k d (omega arith))

pub place_at : (vs : List ℕ) (k d : ℕ) → is_increasing nat_cmp vs ≡ true → k < length vs → place vs (get_or vs k d) ≡ k
place_at [] k d h l = absurd (omega arith)
place_at (v ∷ vs) zero d h l = ap (λ t. cond t 0 (suc (place vs v))) (equal_from v v refl)
place_at (v ∷ vs) (suc k) d h l =
    let above = above_at v vs (get_or vs k d) h (in_at vs k d (omega arith)) in
    ap (λ t. cond t 0 (suc (place vs (get_or vs k d)))) (false_from (eqb v (get_or vs k d)) (λ t. let e = equal_at v (get_or vs k d) t in omega arith))
    ∙ ap suc (place_at vs k d (rest_increasing v vs h) (omega arith))

-- ---- binary search

not_less : (s t : ℕ) → is_lt (nat_cmp s t) ≡ true → is_lt (nat_cmp t s) ≡ false
not_less s t h = grind (arith, nat_tests)

adjacent : (c : List ℕ) (k : ℕ) (d : ℕ) → is_increasing nat_cmp c ≡ true → suc k < length c → is_lt (nat_cmp (get_or c (suc k) d) (get_or c k d)) ≡ false
adjacent [] k d h n = absurd (omega arith)
adjacent (x ∷ []) k d h n = absurd (omega arith)
adjacent (x ∷ y ∷ c) zero d h n = not_less x y (and_left (is_lt (nat_cmp x y)) _ (and_left _ _ h))
adjacent (x ∷ y ∷ c) (suc k) d h n = adjacent (y ∷ c) k d (and_right (list_all (λ z. is_lt (nat_cmp x z)) (y ∷ c)) _ h) (omega arith)

sorted : (c : List ℕ) → is_increasing nat_cmp c ≡ true → IsSortedBy (λ a b. is_lt (nat_cmp a b)) c
sorted c h = λ k d z n. ap (λ j. is_lt (nat_cmp (get_or c j d) (get_or c k d))) (add-one k) ∙ adjacent c k d h (omega arith)

pub found_is : (c : List ℕ) (s : ℕ) (r : Result ℕ ℕ) → is_increasing nat_cmp c ≡ true → IsSearchInRange r (length c) → IsBinarySearchResult (λ y. nat_cmp y s) c r → result_unwrap_or r (length c) ≡ place c s
found_is c s (Ok i) up range h = sym (place_at c i s up range) ∙ ap (place c) (nat_cmp-IsAntisymmetric (get_or c i s) s (h s))
found_is c s (Err i) up range h = sym (place_out c s (λ t.
    let r = in_contains c s t in
    let parts = h (searchable_from_sorted nat_cmp_total (λ x. x) c s (sorted c up)) in
    let tie : nat_cmp (get_or c r.0 s) s ≡ Equal = ap (λ x. nat_cmp x s) r.2 ∙ tied_itself nat_cmp_total s in
    elim (ltb r.0 i) as (λ v. ltb r.0 i ≡ v → ⊥) [
      | true ↦ λ e. less_not (sym tie ∙ parts.0 r.0 s (omega arith) (grind (arith, nat_tests)))
      | false ↦ λ e. greater_not (sym tie ∙ parts.1 r.0 s (grind (arith, nat_tests)) r.1)
    ] refl))
  where
    less_not : Equal ≡ Less → ⊥
    less_not e = cc

    greater_not : Equal ≡ Greater → ⊥
    greater_not e = cc

-- a list is that of what stands at its places
pub listed : {X : Type 0} (d : X) (xs : List X) (g : ℕ → X) (a : ℕ) → ((k : ℕ) → k < length xs → g (a + k) ≡ get_or xs k d) → map g (range_with_len a (length xs)) ≡ xs
listed d [] g a f = refl
listed d (x ∷ xs) g a f =
    let here : a ≡ a + 0 = omega arith in
    let head : g a ≡ x = ap g here ∙ f 0 (omega arith) in
    let rest : map g (range_with_len (a + 1) (length xs)) ≡ xs = listed d xs g (a + 1) (λ k h. let e : a + 1 + k ≡ a + suc k = omega arith in ap g e ∙ f (suc k) (omega arith)) in
    λ i. head i ∷ rest i
