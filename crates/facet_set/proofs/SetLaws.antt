-- Sets of numbers out of lists, and how many members they have.
use Rattle.std.proofs.Common.{◌≡◌, ℕ, zero, suc, ◌+◌, ◌≤◌, ◌<◌, true, false, not, ◌&&◌, eqb, List, [], ◌∷◌, ◌++◌, map, length, length-append, take, get_or, length-take, refl, sym, ap, ◌∙◌, subst, inl, inr, arith, None}
use Rattle.std.specs.Bool.{IsTrue}
use Rattle.std.specs.Prelude.{◌==◌}
use Rattle.std.specs.Ordering.{nat_cmp}
use Rattle.std.specs.List.{list_all, IsDistinct, AllByRecursion}
use Rattle.std.specs.FinMap.{nat_cmp-IsAntisymmetric}
use Rattle.std.proofs.lemmas.Cmp.{nat_cmp_total}
use Rattle.std.proofs.lemmas.List.{take_more, map-append}
use Rattle.std.proofs.lemmas.List.Elements.{All-from_recursion}
use Rattle.simplex.specs.InOrder.{is_increasing}
use Rattle.simplex.specs.Simplex.{has, is_label, is_simplex, union}
use Rattle.simplex.specs.SimplexFault.{set, simplex_fault}
use Rattle.simplex.proofs.FaultLaws.{faultless_is, faultless_from, length-set}
use Rattle.simplex.proofs.Filled.{short_of, labels_of, rising_of}
use Rattle.simplex.proofs.InOrderLaws.{and_left, and_right, and_both, in_order_again, is_increasing-in_order}
use Rattle.simplex.proofs.Members.{In, first, later, cases, at_head, none, in_left, in_right, in_either, in_order_in, from_in_order, same_in_order}
use Rattle.simplex.proofs.SimplexLaws.{has_at, has_from}
use Rattle.simplex.proofs.Decided.{agree, false_from, false_at, not_true, equal_at, equal_from}
use Rattle.facet_set.specs.Maps.{is_distinct}
use Rattle.facet_set.proofs.Counting.{count-put}

-- ---- members
pub in_set : (x : ℕ) (xs : List ℕ) → In x xs → In x (set xs)
in_set x xs i = in_order_in nat_cmp_total nat_cmp-IsAntisymmetric x xs i

pub from_set : (x : ℕ) (xs : List ℕ) → In x (set xs) → In x xs
from_set x xs i = from_in_order nat_cmp_total nat_cmp-IsAntisymmetric x xs i

pub set_up : (xs : List ℕ) → is_increasing nat_cmp (set xs) ≡ true
set_up xs = is_increasing-in_order nat_cmp_total xs

pub set_again : (xs : List ℕ) → is_increasing nat_cmp xs ≡ true → set xs ≡ xs
set_again xs h = in_order_again nat_cmp_total nat_cmp-IsAntisymmetric xs h

pub same_set : (xs ys : List ℕ) → ((x : ℕ) → In x xs → In x ys) → ((x : ℕ) → In x ys → In x xs) → set xs ≡ set ys
same_set xs ys f g = same_in_order nat_cmp_total nat_cmp-IsAntisymmetric xs ys f g

-- ---- how many
length_new : (x : ℕ) (xs : List ℕ) → has xs x ≡ false → length (set (x ∷ xs)) ≡ suc (length (set xs))
length_new x xs h = count-put nat_cmp_total nat_cmp-IsAntisymmetric x (set xs) (λ i. false_at (has xs x) h (has_from xs x (from_set x xs i)))

set_old : (x : ℕ) (xs : List ℕ) → In x xs → set (x ∷ xs) ≡ set xs
set_old x xs i = same_set (x ∷ xs) xs (λ y j. elim (cases j) [ inl e ↦ subst (λ z. In z xs) (sym e) i | inr k ↦ k ]) (λ y j. later j)

-- the set of a list has as many members exactly where none of the list stands twice
pub length_distinct : (xs : List ℕ) → is_distinct xs ≡ true → length (set xs) ≡ length xs
length_distinct [] h = refl
length_distinct (x ∷ xs) h = length_new x xs (not_true (has xs x) (and_left _ _ h)) ∙ ap suc (length_distinct xs (and_right (not (has xs x)) _ h))

pub distinct_length : (xs : List ℕ) → length (set xs) ≡ length xs → is_distinct xs ≡ true
distinct_length [] h = refl
distinct_length (x ∷ xs) h =
    elim (has xs x) as (λ v. has xs x ≡ v → (not v && is_distinct xs) ≡ true) [
      | true ↦ λ e. let few = length-set xs in let same = ap length (set_old x xs (has_at xs x e)) in absurd (omega arith)
      | false ↦ λ e. let more = length_new x xs e in distinct_length xs (omega arith)
    ] refl

pub distinct_test : (xs : List ℕ) → (length (set xs) == length xs) ≡ is_distinct xs
distinct_test xs =
    agree _ _ (λ e. distinct_length xs (equal_at (length (set xs)) (length xs) e)) (λ h. equal_from (length (set xs)) (length xs) (length_distinct xs h))

pub increasing_distinct : (xs : List ℕ) → is_increasing nat_cmp xs ≡ true → is_distinct xs ≡ true
increasing_distinct xs h = distinct_length xs (ap length (set_again xs h))

-- ---- distinctness member by member
pub distinct_head : (x : ℕ) (xs : List ℕ) → is_distinct (x ∷ xs) ≡ true → In x xs → ⊥
distinct_head x xs h i = false_at (has xs x) (not_true (has xs x) (and_left _ _ h)) (has_from xs x i)

pub distinct_rest : (x : ℕ) (xs : List ℕ) → is_distinct (x ∷ xs) ≡ true → is_distinct xs ≡ true
distinct_rest x xs h = and_right (not (has xs x)) _ h

pub distinct_more : (x : ℕ) (xs : List ℕ) → (In x xs → ⊥) → is_distinct xs ≡ true → is_distinct (x ∷ xs) ≡ true
distinct_more x xs f h = and_both _ _ (ap not (false_from (has xs x) (λ e. f (has_at xs x e)))) h

pub distinct_both : (xs ys : List ℕ) → is_distinct xs ≡ true → is_distinct ys ≡ true → ((x : ℕ) → In x xs → In x ys → ⊥) → is_distinct (xs ++ ys) ≡ true
distinct_both [] ys h k f = k
distinct_both (x ∷ xs) ys h k f =
    distinct_more x (xs ++ ys) (λ i. elim (in_either x xs ys i) [ inl j ↦ distinct_head x xs h j | inr j ↦ f x first j ])
    (distinct_both xs ys (distinct_rest x xs h) k (λ y i j. f y (later i) j))

distinct_at : (xs : List ℕ) → is_distinct xs ≡ true → IsDistinct eqb xs
unfolding IsDistinct
distinct_at [] h = tt
distinct_at (x ∷ xs) h = (each xs (λ i. distinct_head x xs h i), distinct_at xs (distinct_rest x xs h))
  where
    each : (ys : List ℕ) → (In x ys → ⊥) → AllByRecursion (λ y. eqb x y ≡ false) ys
    each [] f = tt
    each (y ∷ ys) f = (false_from (eqb x y) (λ e. f (at_head x y ys (equal_at x y e))), each ys (λ i. f (later i)))

distinct_from : (xs : List ℕ) → IsDistinct eqb xs → is_distinct xs ≡ true
unfolding IsDistinct
distinct_from [] h = refl
distinct_from (x ∷ xs) h = distinct_more x xs (out xs h.0) (distinct_from xs h.1)
  where
    out : (ys : List ℕ) → AllByRecursion (λ y. eqb x y ≡ false) ys → In x ys → ⊥
    out [] h i = none x i
    out (y ∷ ys) h i = elim (cases i) [ inl e ↦ false_at (eqb x y) h.0 (equal_from x y e) | inr j ↦ out ys h.1 j ]

-- ---- simplices
pub faultless : (s : List ℕ) → IsTrue (is_simplex s) → simplex_fault s ≡ None
faultless s h = faultless_from s (short_of s h) (All-from_recursion (λ a. IsTrue (is_label a)) s (each s (labels_of s h))) (distinct_at s (increasing_distinct s (rising_of s h)))
  where
    each : (xs : List ℕ) → list_all is_label xs ≡ true → AllByRecursion (λ a. IsTrue (is_label a)) xs
    each [] h = tt
    each (x ∷ xs) h = (and_left _ _ h, each xs (and_right (is_label x) _ h))

pub simplex_again : (s : List ℕ) → IsTrue (is_simplex s) → set s ≡ s
simplex_again s h = set_again s (rising_of s h)

pub faultless_distinct : (ns : List ℕ) → simplex_fault ns ≡ None → is_distinct ns ≡ true
faultless_distinct ns h = distinct_from ns (faultless_is ns h).2

-- ---- one more member
pub map_more : {X Y : Type 0} (f : X → Y) (xs : List X) (i : ℕ) (x d : X) → i < length xs → x ≡ get_or xs i d → map f (take i xs) ++ f x ∷ [] ≡ map f (take (i + 1) xs)
map_more f xs i x d h e = sym (ap (map f) (take_more xs i d h ∙ ap (λ y. take i xs ++ y ∷ []) (sym e)) ∙ map-append f (take i xs) (x ∷ []))

pub in_place : {X : Type 0} (xs : List X) (i : ℕ) (d : X) → i < length xs → In (get_or xs i d) xs
in_place [] i d h = absurd (omega arith)
in_place (x ∷ xs) zero d h = first
in_place (x ∷ xs) (suc i) d h = later (in_place xs i d (omega arith))

pub in_item : {X : Type 0} (xs : List X) (i : ℕ) (x : X) → i < length xs → x ≡ get_or xs i x → In x xs
in_item xs i x h e = subst (λ y. In y xs) (sym e) (in_place xs i x h)

pub length_images : {X Y : Type 0} (f : X → Y) (s : List X) → length (map f s) ≡ length s
length_images f [] = refl
length_images f (a ∷ s) = ap suc (length_images f s)

-- ---- one more label
pub length_more : (s : List ℕ) (a : ℕ) → length (union s (a ∷ [])) ≤ length s + 1
length_more s a = let few = length-set (s ++ a ∷ []) in let whole = length-append s (a ∷ []) in omega arith

pub union_end : (s : List ℕ) (a : ℕ) → IsTrue (is_simplex (s ++ a ∷ [])) → union s (a ∷ []) ≡ s ++ a ∷ []
union_end s a h = simplex_again (s ++ a ∷ []) h

pub union_next : (f : ℕ → ℕ) (s items all next : List ℕ) (i b : ℕ) → items ≡ s → i < length items → b ≡ f (get_or items i 0) → all ≡ set (map f (take i s)) → next ≡ union all (b ∷ []) → next ≡ set (map f (take (i + 1) s))
union_next f s items all next i b same h k g n =
    n ∙ same_set (all ++ b ∷ []) (map f (take i s) ++ b ∷ [])
    (λ y j. elim (in_either y all (b ∷ []) j) [ inl k ↦ in_left y (map f (take i s)) (b ∷ []) (from_set y (map f (take i s)) (subst (λ l. In y l) g k)) | inr k ↦ in_right y (map f (take i s)) (b ∷ []) k ])
    (λ y j. elim (in_either y (map f (take i s)) (b ∷ []) j) [ inl k ↦ in_left y all (b ∷ []) (subst (λ l. In y l) (sym g) (in_set y (map f (take i s)) k)) | inr k ↦ in_right y all (b ∷ []) k ])
    ∙ ap set (ap (λ y. map f (take i s) ++ y ∷ []) k ∙ map_more f s i (get_or items i 0) 0 (subst (λ l. i < length l) same h) (ap (λ l. get_or l i 0) same))

pub images_short : (f : ℕ → ℕ) (s items all : List ℕ) (i : ℕ) → IsTrue (is_simplex s) → items ≡ s → i < length items → all ≡ set (map f (take i s)) → length all < 12
images_short f s items all i h same l e =
    let few = length-set (map f (take i s)) in
    let size = ap length e in
    let images : length (map f (take i s)) ≡ length (take i s) = length_images f (take i s) in
    let front = length-take i s in
    let whole = ap length same in
    omega (arith, short_of s h)
