-- A list of labels without a fault, sorted, is a simplex.
use Rattle.std.proofs.Common.{◌≡◌, ℕ, suc, ◌≤◌, ◌+◌, Bool, true, false, cond, not, eqb, leb, ◌||◌, List, [], ◌∷◌, ◌++◌, length, take, drop, length-append, length-drop, replicate, Option, Some, None, refl, sym, ap, ◌∙◌, subst, arith}
use Rattle.std.specs.Bool.{IsTrue}
use Rattle.std.specs.Prelude.{◌==◌}
use Rattle.std.proofs.lemmas.Bool.Decides.{nat_tests}
use Rattle.std.proofs.lemmas.List.Sorted.{IsNonDecreasingBy-from_sort, Contains-permutation, IsPermutation-sym, length_permutation}
use Rattle.std.proofs.lemmas.List.{drop-replicate}
use Rattle.std.proofs.lemmas.Map.Keys.{IsDistinct-IsPermutation, IsStrictlyIncreasing-from_distinct, sorted_from_strictly_increasing}
use Rattle.std.proofs.Math.Seq.{take-append_seam, drop-append_seam}
use Rattle.std.proofs.lemmas.Cmp.{nat_cmp_total}
use Rattle.std.specs.Cmp.{nat_eq_equiv}
use Rattle.std.proofs.lemmas.Bool.{leb-true, le-leb}
use Rattle.std.proofs.lemmas.List.Elements.{All-from_recursion}
use Rattle.std.specs.List.{list_all, IsDistinct, All, AllByRecursion}
use Rattle.std.specs.List.Sorted.{IsPermutation, IsSorted, IsStrictlySortedBy}
use Rattle.std.specs.Ordering.{nat_cmp, is_lt, match_ordering}
use Rattle.std.specs.declared.cmp.Ordering.{Ordering}
use Rattle.std.specs.declared.cmp.Ordering.TheVariants.{Less, Equal, Greater}
use Rattle.std.specs.FinMap.{nat_cmp-IsAntisymmetric}
use Rattle.simplex.specs.declared.simplex_fault.SimplexFault.TheVariants.{Long, Twice, Label}
use Rattle.simplex.specs.FirstFailing.{first_failing}
use Rattle.simplex.specs.SimplexFault.{place_tests, set, simplex_fault}
use Rattle.simplex.specs.InOrder.{is_increasing, put}
use Rattle.simplex.specs.Simplex.{has, is_label, is_simplex, len_limit}
use Rattle.simplex.specs.Cells.{IsFilled}
use Rattle.simplex.proofs.InOrderLaws.{and_left, and_right, and_both, is_increasing-in_order}
use Rattle.simplex.proofs.Members.{all_at, all_from, in_order_in, from_in_order, same_sets, contains_in, in_contains}
use Rattle.simplex.proofs.Filled.{simplex_from}
use Rattle.simplex.proofs.Decided.{neither}

split : {E : Type 0} (a b : Bool) (t f : E) (r : Option E) → cond a (cond (not b) r (Some t)) (Some f) ≡ None → (a ≡ true) × (b ≡ false) × (r ≡ None)
split true false t f r h = (refl, refl, h)
split true true t f r h = cc
split false b t f r h = cc

weaker : {X : Type 0} (P Q : X → Type 0) → ((x : X) → P x → Q x) → (xs : List X) → AllByRecursion P xs → AllByRecursion Q xs
weaker P Q f [] h = tt
weaker P Q f (x ∷ xs) h = (f x h.0, weaker P Q f xs h.1)

pushed : (seen : List ℕ) (x y : ℕ) → has (seen ++ x ∷ []) y ≡ false → (has seen y ≡ false) × (eqb x y ≡ false)
pushed [] x y h = let e : (y == x) ≡ false = (neither (y == x) false h).0 in (refl, grind (arith, nat_tests))
pushed (z ∷ seen) x y h =
    let a = neither (y == z) (has (seen ++ x ∷ []) y) h in
    let r = pushed seen x y a.1 in
    (ap (λ v. v || has seen y) a.0 ∙ r.0, r.1)

fault_split : (at : ℕ) (seen xs : List ℕ) (x : ℕ) → first_failing (place_tests at seen (x ∷ xs)) ≡ None → (is_label x ≡ true) × (has seen x ≡ false) × (first_failing (place_tests (at + 1) (seen ++ x ∷ []) xs) ≡ None)
fault_split at seen xs x h = split (is_label x) (has seen x) (Twice x) (Label at) (first_failing (place_tests (at + 1) (seen ++ x ∷ []) xs)) h

clean_labels : (at : ℕ) (seen xs : List ℕ) → first_failing (place_tests at seen xs) ≡ None → list_all is_label xs ≡ true
clean_labels at seen [] h = refl
clean_labels at seen (x ∷ xs) h = let s = fault_split at seen xs x h in and_both _ _ s.0 (clean_labels (at + 1) (seen ++ x ∷ []) xs s.2)

unseen : (at : ℕ) (seen xs : List ℕ) → first_failing (place_tests at seen xs) ≡ None → AllByRecursion (λ y. has seen y ≡ false) xs
unseen at seen [] h = tt
unseen at seen (x ∷ xs) h =
    let s = fault_split at seen xs x h in
    (s.1, weaker (λ y. has (seen ++ x ∷ []) y ≡ false) (λ y. has seen y ≡ false) (λ y e. (pushed seen x y e).0) xs (unseen (at + 1) (seen ++ x ∷ []) xs s.2))

distinct_from : (at : ℕ) (seen xs : List ℕ) → first_failing (place_tests at seen xs) ≡ None → IsDistinct eqb xs
unfolding IsDistinct
distinct_from at seen [] h = tt
distinct_from at seen (x ∷ xs) h =
    let s = fault_split at seen xs x h in
    (weaker (λ y. has (seen ++ x ∷ []) y ≡ false) (λ y. eqb x y ≡ false) (λ y e. (pushed seen x y e).1) xs (unseen (at + 1) (seen ++ x ∷ []) xs s.2), distinct_from (at + 1) (seen ++ x ∷ []) xs s.2)

-- std's word for strictly sorted, as a test
all_below : {X : Type 0} (cmp : X → X → Ordering) (x : X) (xs : List X) → AllByRecursion (λ y. cmp x y ≡ Less) xs → list_all (λ y. is_lt (cmp x y)) xs ≡ true
all_below cmp x [] h = refl
all_below cmp x (y ∷ xs) h = and_both _ _ (ap is_lt h.0) (all_below cmp x xs h.1)

pub increasing_from_sorted : {X : Type 0} (cmp : X → X → Ordering) (xs : List X) → IsStrictlySortedBy cmp xs → is_increasing cmp xs ≡ true
unfolding IsStrictlySortedBy
increasing_from_sorted cmp [] h = refl
increasing_from_sorted cmp (x ∷ xs) h = and_both _ _ (all_below cmp x xs h.0) (increasing_from_sorted cmp xs h.1)

rising_cells : (labels cells : List ℕ) → first_failing (place_tests 0 [] labels) ≡ None → IsPermutation labels cells → IsSorted nat_cmp cells → is_increasing nat_cmp cells ≡ true
rising_cells labels cells clean p s =
    increasing_from_sorted nat_cmp cells (sorted_from_strictly_increasing cells
    (IsStrictlyIncreasing-from_distinct cells (IsNonDecreasingBy-from_sort (λ x. x) cells s) (IsDistinct-IsPermutation eqb nat_eq_equiv.symm labels cells p (distinct_from 0 [] labels clean))))

-- the cells hold the set of the labels
pub sorted_set : (labels cells : List ℕ) → first_failing (place_tests 0 [] labels) ≡ None → IsPermutation labels cells → IsSorted nat_cmp cells → cells ≡ set labels
sorted_set labels cells clean p s =
    same_sets nat_cmp_total nat_cmp-IsAntisymmetric cells (set labels) (rising_cells labels cells clean p s) (is_increasing-in_order nat_cmp_total labels)
    (λ x i. in_order_in nat_cmp_total nat_cmp-IsAntisymmetric x labels (contains_in labels x (Contains-permutation cells labels x (IsPermutation-sym labels cells p) (in_contains cells x i))))
    (λ x i. contains_in cells x (Contains-permutation labels cells x p (in_contains labels x (from_in_order nat_cmp_total nat_cmp-IsAntisymmetric x labels i))))

sorted_simplex : (labels cells : List ℕ) → length labels ≤ 12 → first_failing (place_tests 0 [] labels) ≡ None → IsPermutation labels cells → IsSorted nat_cmp cells → IsTrue (is_simplex cells)
sorted_simplex labels cells short clean p s =
    simplex_from cells (omega (arith, length_permutation labels cells p))
    (all_from is_label cells (λ x i. all_at is_label x labels (clean_labels 0 [] labels clean) (contains_in labels x (Contains-permutation cells labels x (IsPermutation-sym labels cells p) (in_contains cells x i)))))
    (rising_cells labels cells clean p s)

pub filled_cells : (labels cells : List ℕ) → length labels ≤ 12 → first_failing (place_tests 0 [] labels) ≡ None → IsPermutation labels cells → IsSorted nat_cmp cells
    → IsFilled (cells ++ drop (length labels) (replicate 12 0)) (length labels)
filled_cells labels cells short clean p s =
    let zeros : List ℕ = replicate 12 0 in
    let P : ℕ → Type 0 = λ n. n ≤ 12 → IsFilled (cells ++ drop n (replicate 12 0)) n in
    subst P (length_permutation labels cells p) (λ fits. record {
      whole = length-append cells (drop (length cells) zeros) ∙ omega (arith, length-drop (length cells) zeros);
      short = fits;
      rest = drop-append_seam cells (drop (length cells) (replicate 12 0)) ∙ drop-replicate (length cells) 12 0;
      simplex = subst (λ w. IsTrue (is_simplex w)) (sym (take-append_seam cells (drop (length cells) (replicate 12 0)))) (sorted_simplex labels cells short clean p s);
    }) short

front_cells : (labels cells : List ℕ) → IsPermutation labels cells → take (length labels) (cells ++ drop (length labels) (replicate 12 0)) ≡ cells
front_cells labels cells p =
    ap (λ n. take n (cells ++ drop (length labels) (replicate 12 0))) (sym (length_permutation labels cells p)) ∙ take-append_seam cells (drop (length labels) (replicate 12 0))

pub set_cells : (labels cells : List ℕ) → first_failing (place_tests 0 [] labels) ≡ None → IsPermutation labels cells → IsSorted nat_cmp cells
    → take (length labels) (cells ++ drop (length labels) (replicate 12 0)) ≡ set labels
set_cells labels cells clean p s = front_cells labels cells p ∙ sorted_set labels cells clean p s

pub simplex_cells : (labels cells : List ℕ) → length labels ≤ 12 → first_failing (place_tests 0 [] labels) ≡ None → IsPermutation labels cells → IsSorted nat_cmp cells
    → IsTrue (is_simplex (take (length labels) (cells ++ drop (length labels) (replicate 12 0))))
simplex_cells labels cells short clean p s = subst (λ w. IsTrue (is_simplex w)) (sym (front_cells labels cells p)) (sorted_simplex labels cells short clean p s)

-- ---- the lists without a fault
length_split : {E : Type 0} (v : Bool) (f : E) (r : Option E) → cond v r (Some f) ≡ None → (v ≡ true) × (r ≡ None)
length_split true f r h = (refl, h)
length_split false f r h = cc

pub faultless_is : (ns : List ℕ) → simplex_fault ns ≡ None → (length ns ≤ len_limit) × All (λ a. IsTrue (is_label a)) ns × IsDistinct eqb ns
faultless_is ns h =
    let s = length_split (leb (length ns) len_limit) (Long (length ns)) (first_failing (place_tests 0 [] ns)) h in
    (leb-true (length ns) 12 s.0, All-from_recursion (λ a. IsTrue (is_label a)) ns (each ns (clean_labels 0 [] ns s.1)), distinct_from 0 [] ns s.1)
  where
    each : (xs : List ℕ) → list_all is_label xs ≡ true → AllByRecursion (λ a. IsTrue (is_label a)) xs
    each [] h = tt
    each (x ∷ xs) h = (and_left _ _ h, each xs (and_right (is_label x) _ h))

unseen_more : (seen xs : List ℕ) (x : ℕ) → AllByRecursion (λ y. has seen y ≡ false) xs → AllByRecursion (λ y. eqb x y ≡ false) xs → AllByRecursion (λ y. has (seen ++ x ∷ []) y ≡ false) xs
unseen_more seen [] x h k = tt
unseen_more seen (y ∷ xs) x h k = (one seen h.0 k.0, unseen_more seen xs x h.1 k.1)
  where
    one : (seen : List ℕ) → has seen y ≡ false → eqb x y ≡ false → has (seen ++ x ∷ []) y ≡ false
    one [] h k = let e : (y == x) ≡ false = grind (arith, nat_tests) in ap (λ v. v || false) e
    one (z ∷ seen) h k = let a = neither (y == z) (has seen y) h in ap (λ v. v || has (seen ++ x ∷ []) y) a.0 ∙ one seen a.1 k

clean_from : (at : ℕ) (seen xs : List ℕ) → AllByRecursion (λ a. IsTrue (is_label a)) xs → IsDistinct eqb xs → AllByRecursion (λ y. has seen y ≡ false) xs → first_failing (place_tests at seen xs) ≡ None
unfolding IsDistinct
clean_from at seen [] h d u = refl
clean_from at seen (x ∷ xs) h d u =
    let rest = first_failing (place_tests (at + 1) (seen ++ x ∷ []) xs) in
    ap (λ v. cond v (cond (not (has seen x)) rest (Some (Twice x))) (Some (Label at))) h.0 ∙ ap (λ v. cond (not v) rest (Some (Twice x))) u.0
    ∙ clean_from (at + 1) (seen ++ x ∷ []) xs h.1 d.1 (unseen_more seen xs x u.1 d.0)

by_recursion : (P : ℕ → Type 0) (xs : List ℕ) → All P xs → AllByRecursion P xs
by_recursion P [] h = tt
by_recursion P (x ∷ xs) h = (h 0 x (omega arith), by_recursion P xs (λ k d l. h (suc k) d (omega arith)))

none_seen : (xs : List ℕ) → AllByRecursion (λ y. has [] y ≡ false) xs
none_seen [] = tt
none_seen (x ∷ xs) = (refl, none_seen xs)

pub faultless_from : (ns : List ℕ) → length ns ≤ len_limit → All (λ a. IsTrue (is_label a)) ns → IsDistinct eqb ns → simplex_fault ns ≡ None
faultless_from ns l h d =
    ap (λ v. cond v (first_failing (place_tests 0 [] ns)) (Some (Long (length ns)))) (le-leb (length ns) 12 l)
    ∙ clean_from 0 [] ns (by_recursion (λ a. IsTrue (is_label a)) ns h) d (none_seen ns)

length-put : (x : ℕ) (ys : List ℕ) → length (put nat_cmp x ys) ≤ length ys + 1
length-put x [] = omega arith
length-put x (y ∷ ys) =
    let rest = length-put x ys in
    elim (nat_cmp x y) as (λ r. length (match_ordering r (x ∷ y ∷ ys) (y ∷ ys) (y ∷ put nat_cmp x ys)) ≤ length (y ∷ ys) + 1) [
      | Less ↦ omega arith
      | Equal ↦ omega arith
      | Greater ↦ omega arith
    ]

pub length-set : (xs : List ℕ) → length (set xs) ≤ length xs
length-set [] = omega arith
length-set (x ∷ xs) = omega (arith, length-put x (set xs), length-set xs)

pub faultless_simplex : (ns : List ℕ) → simplex_fault ns ≡ None → IsTrue (is_simplex (set ns))
faultless_simplex ns h =
    let f = faultless_is ns h in
    let s = length_split (leb (length ns) len_limit) (Long (length ns)) (first_failing (place_tests 0 [] ns)) h in
    simplex_from (set ns) (omega (arith, f.0, length-set ns))
    (all_from is_label (set ns) (λ x i. all_at is_label x ns (clean_labels 0 [] ns s.1) (from_in_order nat_cmp_total nat_cmp-IsAntisymmetric x ns i)))
    (is_increasing-in_order nat_cmp_total ns)
