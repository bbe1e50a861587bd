-- Laws of sets of labels.
use Rattle.std.proofs.Common.{◌≡◌, ℕ, ◌≤◌, ◌<◌, Bool, true, false, not, cond, ◌&&◌, ◌||◌, List, [], ◌∷◌, ◌++◌, length, refl, sym, ap, ◌∙◌, subst, ◌⊎◌, inl, inr, arith, ltb}
use mathlib.Core.Bool.{true≢false}
use Rattle.std.specs.Prelude.{◌==◌}
use Rattle.std.specs.Ordering.{is_lt, eq_by_cmp, nat_cmp}
use Rattle.std.specs.declared.cmp.Ordering.{Ordering}
use Rattle.std.specs.List.{list_any, list_all, filter}
use Rattle.std.specs.FinMap.{nat_cmp-IsAntisymmetric}
use Rattle.std.proofs.lemmas.Cmp.{nat_cmp_total}
use Rattle.std.proofs.lemmas.Bool.Decides.{nat_tests}
use Rattle.simplex.specs.InOrder.{is_member, is_increasing}
use Rattle.simplex.specs.Simplex.{has, is_within, is_disjoint, union, without}
use Rattle.simplex.proofs.Members.{In, first, later, cases, none, all_at, all_from, in_filter, from_filter, in_left, in_right, in_either, is_member_from, is_member_at, in_order_in, from_in_order}
use Rattle.simplex.proofs.InOrderLaws.{and_left, and_right, and_both, same_members, is_member-in_order, is_increasing-in_order}
use Rattle.simplex.proofs.Decided.{agree}

tied : (a b : ℕ) → (a == b) ≡ eq_by_cmp nat_cmp a b
tied a b = grind (arith, nat_tests)

below : (a b : ℕ) → is_lt (nat_cmp a b) ≡ ltb a b
below a b = grind (arith, nat_tests)

-- `has` in the words of sets in order
pub has_is : (s : List ℕ) (a : ℕ) → has s a ≡ is_member nat_cmp a s
has_is [] a = refl
has_is (b ∷ s) a = λ i. tied a b i || has_is s a i

pub list_any-append : {X : Type 0} (p : X → Bool) (xs ys : List X) → list_any p (xs ++ ys) ≡ (list_any p xs || list_any p ys)
list_any-append p [] ys = refl
list_any-append p (x ∷ xs) ys = ap (λ b. p x || b) (list_any-append p xs ys) ∙ assoc (p x) (list_any p xs) (list_any p ys)
  where
    assoc : (a b c : Bool) → (a || (b || c)) ≡ ((a || b) || c)
    assoc true b c = refl
    assoc false b c = refl

pub has-union : (s t : List ℕ) (a : ℕ) → has (union s t) a ≡ (has s a || has t a)
has-union s t a = has_is (union s t) a ∙ is_member-in_order nat_cmp_total a (s ++ t) ∙ sym (has_is (s ++ t) a) ∙ list_any-append (λ b. a == b) s t

pub is_increasing-union : (s t : List ℕ) → is_increasing nat_cmp (union s t) ≡ true
is_increasing-union s t = is_increasing-in_order nat_cmp_total (s ++ t)

-- a filter by a test
pub has-filter : (p : ℕ → Bool) (s : List ℕ) (a : ℕ) → has (filter p s) a ≡ (has s a && p a)
has-filter p [] a = refl
has-filter p (b ∷ s) a =
    elim (p b) as (λ v. p b ≡ v → has (cond v (b ∷ filter p s) (filter p s)) a ≡ (((a == b) || has s a) && p a)) [
      | true ↦ λ e. elim (a == b) as (λ w. (a == b) ≡ w → (w || has (filter p s) a) ≡ ((w || has s a) && p a)) [
        | true ↦ λ f. sym (ap p (same f) ∙ e)
        | false ↦ λ f. has-filter p s a
      ] refl
      | false ↦ λ e. elim (a == b) as (λ w. (a == b) ≡ w → has (filter p s) a ≡ ((w || has s a) && p a)) [
        | true ↦ λ f. has-filter p s a ∙ ap (λ v. has s a && v) (ap p (same f) ∙ e) ∙ none (has s a) ∙ sym (ap p (same f) ∙ e)
        | false ↦ λ f. has-filter p s a
      ] refl
    ] refl
  where
    same : (a == b) ≡ true → a ≡ b
    same f = grind (arith, nat_tests)

    none : (v : Bool) → (v && false) ≡ false
    none true = refl
    none false = refl

pub list_all-filter : {X : Type 0} (q p : X → Bool) (xs : List X) → list_all q xs ≡ true → list_all q (filter p xs) ≡ true
list_all-filter q p [] h = refl
list_all-filter q p (x ∷ xs) h =
    elim (p x) as (λ v. list_all q (cond v (x ∷ filter p xs) (filter p xs)) ≡ true) [
      | true ↦ and_both _ _ (and_left _ _ h) (list_all-filter q p xs (and_right (q x) _ h))
      | false ↦ list_all-filter q p xs (and_right (q x) _ h)
    ]

pub is_increasing-filter : {X : Type 0} (cmp : X → X → Ordering) (p : X → Bool) (xs : List X) → is_increasing cmp xs ≡ true → is_increasing cmp (filter p xs) ≡ true
is_increasing-filter cmp p [] h = refl
is_increasing-filter cmp p (x ∷ xs) h =
    elim (p x) as (λ v. is_increasing cmp (cond v (x ∷ filter p xs) (filter p xs)) ≡ true) [
      | true ↦ and_both _ _ (list_all-filter (λ y. is_lt (cmp x y)) p xs (and_left _ _ h)) (is_increasing-filter cmp p xs (and_right (list_all (λ y. is_lt (cmp x y)) xs) _ h))
      | false ↦ is_increasing-filter cmp p xs (and_right (list_all (λ y. is_lt (cmp x y)) xs) _ h)
    ]

-- what a set's lying in another says of each label
pub within_at : (s t : List ℕ) (a : ℕ) → is_within s t ≡ true → has s a ≡ true → has t a ≡ true
within_at [] t a h k = cc
within_at (b ∷ s) t a h k =
    elim (a == b) as (λ w. (a == b) ≡ w → (w || has s a) ≡ true → has t a ≡ true) [
      | true ↦ λ f _. let e : a ≡ b = grind (arith, nat_tests) in ap (has t) e ∙ and_left _ _ h
      | false ↦ λ f k. within_at s t a (and_right (has t b) _ h) k
    ] refl k

pub within_from : (s t : List ℕ) → ((a : ℕ) → has s a ≡ true → has t a ≡ true) → is_within s t ≡ true
within_from [] t f = refl
within_from (b ∷ s) t f = and_both _ _ (f b (ap (λ v. v || has s b) (itself b))) (within_from s t (λ a k. f a (later (a == b) (has s a) k)))
  where
    itself : (b : ℕ) → (b == b) ≡ true
    itself b = grind (arith, nat_tests)

    later : (v w : Bool) → w ≡ true → (v || w) ≡ true
    later true w k = refl
    later false w k = k

pub within_itself : (s : List ℕ) → is_within s s ≡ true
within_itself s = within_from s s (λ a h. h)

pub within_trans : (s t u : List ℕ) → is_within s t ≡ true → is_within t u ≡ true → is_within s u ≡ true
within_trans s t u h k = within_from s u (λ a e. within_at t u a k (within_at s t a h e))

-- two sets that lie in one another are one
pub same_labels : (s t : List ℕ) → is_increasing nat_cmp s ≡ true → is_increasing nat_cmp t ≡ true → is_within s t ≡ true → is_within t s ≡ true → s ≡ t
same_labels s t h k f g = same_members nat_cmp_total nat_cmp-IsAntisymmetric s t h k (λ a. sym (has_is s a) ∙ agree (has s a) (has t a) (within_at s t a f) (within_at t s a g) ∙ has_is t a)

-- ---- labels as members

pub has_from : (s : List ℕ) (a : ℕ) → In a s → has s a ≡ true
has_from s a i = has_is s a ∙ is_member_from nat_cmp_total nat_cmp-IsAntisymmetric a s i

pub has_at : (s : List ℕ) (a : ℕ) → has s a ≡ true → In a s
has_at s a h = is_member_at nat_cmp_total nat_cmp-IsAntisymmetric a s (sym (has_is s a) ∙ h)

pub within_in : (s t : List ℕ) (a : ℕ) → is_within s t ≡ true → In a s → In a t
within_in s t a h i = has_at t a (within_at s t a h (has_from s a i))

pub in_within : (s t : List ℕ) → ((a : ℕ) → In a s → In a t) → is_within s t ≡ true
in_within s t f = within_from s t (λ a h. has_from t a (f a (has_at s a h)))

pub in_union : (s t : List ℕ) (a : ℕ) → In a s ⊎ In a t → In a (union s t)
in_union s t a i = in_order_in nat_cmp_total nat_cmp-IsAntisymmetric a (s ++ t) (elim i [ inl j ↦ in_left a s t j | inr j ↦ in_right a s t j ])

pub from_union : (s t : List ℕ) (a : ℕ) → In a (union s t) → In a s ⊎ In a t
from_union s t a i = in_either a s t (from_in_order nat_cmp_total nat_cmp-IsAntisymmetric a (s ++ t) i)

pub in_without : (s : List ℕ) (a b : ℕ) → In b s → (b ≡ a → ⊥) → In b (without s a)
in_without s a b i f = in_filter (λ c. not (a == c)) b s i (grind (arith, nat_tests))

pub from_without : (s : List ℕ) (a b : ℕ) → In b (without s a) → In b s × (b ≡ a → ⊥)
from_without s a b i = let r = from_filter (λ c. not (a == c)) b s i in (r.0, λ e. differs a b r.1 e)
  where
    differs : (a b : ℕ) → not (a == b) ≡ true → b ≡ a → ⊥
    differs a b h e = grind (arith, nat_tests)

pub disjoint_at : (s t : List ℕ) (a : ℕ) → is_disjoint s t ≡ true → In a s → In a t → ⊥
disjoint_at s t a h i j = true≢false (sym (all_at (λ b. not (has t b)) a s h i) ∙ ap not (has_from t a j))

pub disjoint_from : (s t : List ℕ) → ((a : ℕ) → In a s → In a t → ⊥) → is_disjoint s t ≡ true
disjoint_from s t f = all_from (λ b. not (has t b)) s (λ a i. lacks (has t a) (λ h. f a i (has_at t a h)))
  where
    lacks : (v : Bool) → (v ≡ true → ⊥) → not v ≡ true
    lacks true g = absurd (g refl)
    lacks false g = refl

pub above_at : (a : ℕ) (s : List ℕ) (c : ℕ) → is_increasing nat_cmp (a ∷ s) ≡ true → In c s → a < c
above_at a s c h i = less (all_at (λ b. is_lt (nat_cmp a b)) c s (and_left _ _ h) i)
  where
    less : is_lt (nat_cmp a c) ≡ true → a < c
    less e = grind (arith, nat_tests)

pub rest_increasing : (a : ℕ) (s : List ℕ) → is_increasing nat_cmp (a ∷ s) ≡ true → is_increasing nat_cmp s ≡ true
rest_increasing a s h = and_right (list_all (λ b. is_lt (nat_cmp a b)) s) _ h

pub front_increasing : (a : ℕ) (s : List ℕ) → ((c : ℕ) → In c s → a < c) → is_increasing nat_cmp s ≡ true → is_increasing nat_cmp (a ∷ s) ≡ true
front_increasing a s f h = and_both _ _ (all_from (λ b. is_lt (nat_cmp a b)) s (λ c i. less c (f c i))) h
  where
    less : (c : ℕ) → a < c → is_lt (nat_cmp a c) ≡ true
    less c e = grind (arith, nat_tests)

-- a set that does not lie in another has a label beside it
pub label_beside : (s t : List ℕ) → is_within s t ≡ false → (x : ℕ) × In x s × (In x t → ⊥)
label_beside [] t e = cc
label_beside (x ∷ s) t e =
    elim (has t x) as (λ v. has t x ≡ v → (y : ℕ) × In y (x ∷ s) × (In y t → ⊥)) [
      | true ↦ λ h. let r = label_beside s t (sym (ap (λ v. v && is_within s t) h) ∙ e) in (r.0, later r.1, r.2)
      | false ↦ λ h. (x, first, λ i. apart (has t x) h (has_from t x i))
    ] refl
  where
    apart : (v : Bool) → v ≡ false → v ≡ true → ⊥
    apart v e h = true≢false (sym h ∙ e)

-- a set that lies in another has no more labels; and where it has as many, it is the other
pub within_length : (s t : List ℕ) → is_increasing nat_cmp s ≡ true → is_increasing nat_cmp t ≡ true → is_within s t ≡ true → length s ≤ length t
within_length [] t h k w = omega arith
within_length (a ∷ s) [] h k w = absurd (none a (within_in (a ∷ s) [] a w first))
within_length (a ∷ s) (b ∷ t) h k w =
    let i : In a (b ∷ t) = within_in (a ∷ s) (b ∷ t) a w first in
    let low : b ≤ a = elim (cases i) [ inl e ↦ omega arith | inr j ↦ let l = above_at b t a k j in omega arith ] in
    let sub : is_within s t ≡ true = in_within s t (λ c j. let l = above_at a s c h j in elim (cases (within_in (a ∷ s) (b ∷ t) c w (later j))) [ inl e ↦ absurd (omega arith) | inr m ↦ m ]) in
    let shorter = within_length s t (rest_increasing a s h) (rest_increasing b t k) sub in
    omega arith

pub within_same : (s t : List ℕ) → is_increasing nat_cmp s ≡ true → is_increasing nat_cmp t ≡ true → is_within s t ≡ true → length s ≡ length t → s ≡ t
within_same [] [] h k w n = refl
within_same [] (b ∷ t) h k w n = absurd (omega arith)
within_same (a ∷ s) [] h k w n = absurd (omega arith)
within_same (a ∷ s) (b ∷ t) h k w n =
    let sub : is_within s t ≡ true = in_within s t (λ c j. let l = above_at a s c h j in
    let low : b ≤ a = elim (cases (within_in (a ∷ s) (b ∷ t) a w first)) [ inl e ↦ omega arith | inr m ↦ let q = above_at b t a k m in omega arith ] in
    elim (cases (within_in (a ∷ s) (b ∷ t) c w (later j))) [ inl e ↦ absurd (omega arith) | inr m ↦ m ]) in
    let shorter : s ≡ t = within_same s t (rest_increasing a s h) (rest_increasing b t k) sub (omega arith) in
    elim (cases (within_in (a ∷ s) (b ∷ t) a w first)) [
      | inl e ↦ λ i. e i ∷ shorter i
      | inr m ↦ let q = above_at b t a k m in absurd (let r : In a s = subst (λ x. In a x) (sym shorter) m in let l = above_at a s a h r in omega arith)
    ]
