-- Increasing lists of simplices, member by member.
use Rattle.std.proofs.Common.{◌≡◌, ℕ, zero, suc, ◌+◌, ◌<◌, ◌≤◌, true, false, not, cond, List, [], ◌∷◌, length, get_or, refl, sym, ap, ◌∙◌, subst, inl, inr, arith, add-one}
use mathlib.Core.Bool.{true≢false}
use Rattle.std.specs.Ordering.{is_eq, is_lt, match_ordering}
use Rattle.std.specs.declared.cmp.Ordering.{Ordering}
use Rattle.std.specs.declared.cmp.Ordering.TheVariants.{Less, Equal, Greater}
use Rattle.std.specs.FinMap.{IsAntisymmetric, nat_cmp-IsAntisymmetric, slice_cmp-IsAntisymmetric}
use Rattle.std.specs.List.{list_all, remove}
use Rattle.std.specs.List.Sorted.{IsSortedBy}
use Rattle.std.proofs.lemmas.Cmp.{nat_list_cmp_total, tied_itself}
use Rattle.simplex.specs.InOrder.{is_increasing, is_member, put}
use Rattle.simplex.specs.Simplex.{simplex_cmp, is_same}
use Rattle.simplex.proofs.Decided.{false_from}
use Rattle.simplex.proofs.InOrderLaws.{and_left, and_right, less_is, equal_is}
use Rattle.simplex.proofs.Members.{In, first, later, cases, none, all_at, is_member_from, is_member_at}
use Rattle.ranked_set.specs.Blocks.{but}

-- simplices that compare alike are one
pub exact : IsAntisymmetric simplex_cmp
exact = slice_cmp-IsAntisymmetric nat_cmp-IsAntisymmetric

pub not_below_itself : (s : List ℕ) → is_lt (simplex_cmp s s) ≡ true → ⊥
not_below_itself s h = true≢false (sym h ∙ ap is_lt (tied_itself nat_list_cmp_total s))

pub below_apart : (s t : List ℕ) → is_lt (simplex_cmp s t) ≡ true → s ≡ t → ⊥
below_apart s t h e = not_below_itself s (ap (λ x. is_lt (simplex_cmp s x)) e ∙ h)

pub below_both : (s t : List ℕ) → is_lt (simplex_cmp s t) ≡ true → is_lt (simplex_cmp t s) ≡ true → ⊥
below_both s t h k = not_below_itself s (ap is_lt (nat_list_cmp_total.trans s t s (less_is _ h) (less_is _ k)))

adjacent : (c : List (List ℕ)) (k : ℕ) (d : List ℕ) → is_increasing simplex_cmp c ≡ true → suc k < length c → is_lt (simplex_cmp (get_or c (suc k) d) (get_or c k d)) ≡ false
adjacent [] k d h n = absurd (omega arith)
adjacent (x ∷ []) k d h n = absurd (omega arith)
adjacent (x ∷ y ∷ c) zero d h n = false_from _ (λ e. below_both x y (and_left (is_lt (simplex_cmp x y)) _ (and_left _ _ h)) e)
adjacent (x ∷ y ∷ c) (suc k) d h n = adjacent (y ∷ c) k d (and_right (list_all (λ z. is_lt (simplex_cmp x z)) (y ∷ c)) _ h) (omega arith)

pub sorted : (c : List (List ℕ)) → is_increasing simplex_cmp c ≡ true → IsSortedBy (λ a b. is_lt (simplex_cmp a b)) c
sorted c h = λ k d z n. ap (λ j. is_lt (simplex_cmp (get_or c j d) (get_or c k d))) (add-one k) ∙ adjacent c k d h (omega arith)

-- ---- members
pub member_from : (s : List ℕ) (xs : List (List ℕ)) → In s xs → is_member simplex_cmp s xs ≡ true
member_from s xs i = is_member_from nat_list_cmp_total exact s xs i

pub member_at : (s : List ℕ) (xs : List (List ℕ)) → is_member simplex_cmp s xs ≡ true → In s xs
member_at s xs h = is_member_at nat_list_cmp_total exact s xs h

pub in_place : (xs : List (List ℕ)) (k : ℕ) (s : List ℕ) → k < length xs → get_or xs k [] ≡ s → In s xs
in_place [] k s h e = absurd (omega arith)
in_place (x ∷ xs) zero s h e = subst (λ y. In y (x ∷ xs)) e first
in_place (x ∷ xs) (suc k) s h e = later (in_place xs k s (omega (arith, h)) e)

pub length-put_new : (s : List ℕ) (xs : List (List ℕ)) → is_member simplex_cmp s xs ≡ false → length (put simplex_cmp s xs) ≡ length xs + 1
length-put_new s [] h = omega arith
length-put_new s (x ∷ xs) h =
    elim (simplex_cmp s x) as (λ r. simplex_cmp s x ≡ r → length (match_ordering r (s ∷ x ∷ xs) (x ∷ xs) (x ∷ put simplex_cmp s xs)) ≡ length (x ∷ xs) + 1) [
      | Less ↦ λ e. omega arith
      | Equal ↦ λ e. absurd (true≢false (sym (member_from s (x ∷ xs) (subst (λ y. In y (x ∷ xs)) (sym (exact s x e)) first)) ∙ h))
      | Greater ↦ λ e. let r = length-put_new s xs (false_from (is_member simplex_cmp s xs) (λ t. true≢false (sym (member_from s (x ∷ xs) (later (member_at s xs t))) ∙ h))) in omega arith
    ] refl

pub length-put_most : (s : List ℕ) (xs : List (List ℕ)) → length (put simplex_cmp s xs) ≤ length xs + 1
length-put_most s [] = omega arith
length-put_most s (x ∷ xs) =
    let r = length-put_most s xs in
    elim (simplex_cmp s x) as (λ r. length (match_ordering r (s ∷ x ∷ xs) (x ∷ xs) (x ∷ put simplex_cmp s xs)) ≤ length (x ∷ xs) + 1) [ Less ↦ omega arith | Equal ↦ omega arith | Greater ↦ omega arith ]

-- ---- a list without one of its members
apart : (s t : List ℕ) → (s ≡ t → ⊥) → not (is_same s t) ≡ true
apart s t n = ap not (false_from (is_same s t) (λ e. n (exact s t (equal_is _ e))))

same : (s : List ℕ) → not (is_same s s) ≡ false
same s = ap not (eq_itself (simplex_cmp s s) (tied_itself nat_list_cmp_total s))
  where
    eq_itself : (r : Ordering) → r ≡ Equal → is_eq r ≡ true
    eq_itself r e = ap is_eq e

all_stay : (s : List ℕ) (xs : List (List ℕ)) → list_all (λ y. is_lt (simplex_cmp s y)) xs ≡ true → but s xs ≡ xs
all_stay s [] h = refl
all_stay s (x ∷ xs) h =
    ap (λ v. cond v (x ∷ but s xs) (but s xs)) (apart s x (below_apart s x (and_left _ _ h))) ∙ ap (λ l. x ∷ l) (all_stay s xs (and_right (is_lt (simplex_cmp s x)) _ h))

pub remove_is : (xs : List (List ℕ)) (k : ℕ) (s : List ℕ) → is_increasing simplex_cmp xs ≡ true → k < length xs → get_or xs k [] ≡ s → remove xs k ≡ but s xs
remove_is [] k s h l e = absurd (omega arith)
remove_is (x ∷ xs) zero s h l e =
    sym (ap (λ v. cond v (x ∷ but s xs) (but s xs)) (ap (λ y. not (is_same s y)) e ∙ same s) ∙ all_stay s xs (ap (λ y. list_all (λ z. is_lt (simplex_cmp y z)) xs) (sym e) ∙ and_left _ _ h))
remove_is (x ∷ xs) (suc k) s h l e =
    let below : is_lt (simplex_cmp x s) ≡ true = all_at (λ y. is_lt (simplex_cmp x y)) s xs (and_left _ _ h) (in_place xs k s (omega (arith, l)) e) in
    ap (λ l. x ∷ l) (remove_is xs k s (and_right (list_all (λ y. is_lt (simplex_cmp x y)) xs) _ h) (omega (arith, l)) e)
    ∙ sym (ap (λ v. cond v (x ∷ but s xs) (but s xs)) (apart s x (λ f. below_apart x s below (sym f))))

pub length-but : (s : List ℕ) (xs : List (List ℕ)) → is_increasing simplex_cmp xs ≡ true → In s xs → length (but s xs) + 1 ≡ length xs
length-but s [] h i = absurd (none s i)
length-but s (x ∷ xs) h i =
    elim (cases i) [
      | inl e ↦
          let stay : but s xs ≡ xs = all_stay s xs (ap (λ y. list_all (λ z. is_lt (simplex_cmp y z)) xs) e ∙ and_left _ _ h) in
          let gone : but s (x ∷ xs) ≡ xs = ap (λ v. cond v (x ∷ but s xs) (but s xs)) (ap (λ y. not (is_same s y)) (sym e) ∙ same s) ∙ stay in
          let n : length (but s (x ∷ xs)) ≡ length xs = ap length gone in
          omega arith
      | inr j ↦
          let below : is_lt (simplex_cmp x s) ≡ true = all_at (λ y. is_lt (simplex_cmp x y)) s xs (and_left _ _ h) j in
          let kept : but s (x ∷ xs) ≡ x ∷ but s xs = ap (λ v. cond v (x ∷ but s xs) (but s xs)) (apart s x (λ f. below_apart x s below (sym f))) in
          let n : length (but s (x ∷ xs)) ≡ length (x ∷ but s xs) = ap length kept in
          let r = length-but s xs (and_right (list_all (λ y. is_lt (simplex_cmp x y)) xs) _ h) j in
          omega arith
    ]

pub length-remove : (xs : List (List ℕ)) (k : ℕ) → length (remove xs k) ≤ length xs
length-remove [] zero = omega arith
length-remove [] (suc k) = omega arith
length-remove (x ∷ xs) zero = omega arith
length-remove (x ∷ xs) (suc k) = let r = length-remove xs k in omega arith
