-- Simplices that grow at their end, and the numbers from one on.
use Rattle.std.proofs.Common.{◌≡◌, ℕ, zero, suc, ◌+◌, ◌<◌, ◌≤◌, true, ltb, List, [], ◌∷◌, ◌++◌, length, refl, sym, ap, ◌∙◌, subst, inl, inr, arith, add-one, length-append}
use Rattle.std.specs.Bool.{IsTrue}
use Rattle.std.specs.List.{list_all, range_with_len}
use Rattle.std.specs.Ordering.{nat_cmp}
use Rattle.std.specs.FinMap.{nat_cmp-IsAntisymmetric}
use Rattle.std.proofs.lemmas.Cmp.{nat_cmp_total}
use Rattle.std.proofs.lemmas.Bool.{le-leb}
use Rattle.std.proofs.lemmas.Bool.Decides.{nat_tests}
use Rattle.std.proofs.lemmas.List.FromFn.{length-range_with_len}
use Rattle.simplex.specs.InOrder.{is_increasing}
use Rattle.simplex.specs.Simplex.{is_label, is_simplex, union, without}
use Rattle.simplex.proofs.InOrderLaws.{and_both, in_order_again}
use Rattle.simplex.proofs.Members.{In, first, later, cases, none, all_at, all_from, in_either}
use Rattle.simplex.proofs.SimplexLaws.{above_at, rest_increasing, front_increasing, from_without}
use Rattle.simplex.proofs.Filled.{short_of, labels_of, rising_of, simplex_from}
use Rattle.simplex.proofs.Ranges.{from_range, range_rising}
use Rattle.facet_set.proofs.FlipLaws.{length-without}

pub below_true : (x y : ℕ) → ltb x y ≡ true → x < y
below_true x y h = grind (arith, nat_tests)

pub true_below : (x y : ℕ) → x < y → ltb x y ≡ true
true_below x y h = grind (arith, nat_tests)

-- ---- one more label
pub rising_push : (s : List ℕ) (l : ℕ) → is_increasing nat_cmp s ≡ true → ((x : ℕ) → In x s → x < l) → is_increasing nat_cmp (s ++ l ∷ []) ≡ true
rising_push [] l h f = refl
rising_push (x ∷ s) l h f =
    front_increasing x (s ++ l ∷ []) (λ c i. elim (in_either c s (l ∷ []) i) [
      | inl j ↦ above_at x s c h j
      | inr j ↦ elim (cases j) [ inl e ↦ subst (λ y. x < y) (sym e) (f x first) | inr n ↦ absurd (none c n) ]
    ]) (rising_push s l (rest_increasing x s h) (λ y i. f y (later i)))

label_from : (l : ℕ) → 1 ≤ l → l ≤ 1000000 → is_label l ≡ true
label_from l h k = and_both _ _ (le-leb 1 l h) (le-leb l 1000000 k)

pub simplex_push : (s : List ℕ) (l : ℕ) → IsTrue (is_simplex s) → length s + 1 ≤ 12 → list_all (λ x. ltb x l) s ≡ true → 1 ≤ l → l ≤ 1000000 → IsTrue (is_simplex (s ++ l ∷ []))
simplex_push s l h n b k m =
    simplex_from (s ++ l ∷ []) (omega (arith, length-append s (l ∷ [])))
    (all_from is_label (s ++ l ∷ []) (λ x i. elim (in_either x s (l ∷ []) i) [
      | inl j ↦ all_at is_label x s (labels_of s h) j
      | inr j ↦ elim (cases j) [ inl e ↦ ap is_label e ∙ label_from l k m | inr n ↦ absurd (none x n) ]
    ]))
    (rising_push s l (rising_of s h) (λ x i. below_true x l (all_at (λ x. ltb x l) x s b i)))

pub below_push : (s : List ℕ) (l m : ℕ) → list_all (λ x. ltb x l) s ≡ true → l < m → list_all (λ x. ltb x m) (s ++ l ∷ []) ≡ true
below_push s l m b h = all_from (λ x. ltb x m) (s ++ l ∷ []) (λ x i. elim (in_either x s (l ∷ []) i) [
  | inl j ↦ let n = below_true x l (all_at (λ x. ltb x l) x s b j) in true_below x m (omega arith)
  | inr j ↦ elim (cases j) [ inl e ↦ ap (λ y. ltb y m) e ∙ true_below l m h | inr n ↦ absurd (none x n) ]
])

pub union_last : (s : List ℕ) (l : ℕ) → IsTrue (is_simplex (s ++ l ∷ [])) → union s (l ∷ []) ≡ s ++ l ∷ []
union_last s l h = in_order_again nat_cmp_total nat_cmp-IsAntisymmetric (s ++ l ∷ []) (rising_of (s ++ l ∷ []) h)

-- a simplex with one of its labels replaced by one above all
pub simplex_cone : (s : List ℕ) (x l : ℕ) → IsTrue (is_simplex s) → In x s → list_all (λ x. ltb x l) s ≡ true → l ≤ 1000000 → IsTrue (is_simplex (without s x)) → IsTrue (is_simplex (without s x ++ l ∷ []))
simplex_cone s x l h i b m k =
    simplex_push (without s x) l k (omega (arith, length-without x s (rising_of s h) i, short_of s h))
    (all_from (λ x. ltb x l) (without s x) (λ y j. all_at (λ x. ltb x l) y s b (from_without s x y j).0))
    (let n = below_true x l (all_at (λ x. ltb x l) x s b i) in omega arith) m

-- ---- the numbers from one on
pub range_more : (a n : ℕ) → range_with_len a (suc n) ≡ range_with_len a n ++ (a + n) ∷ []
range_more a zero = ap (λ x. x ∷ []) (omega arith)
range_more a (suc n) = ap (λ xs. a ∷ xs) (range_more (a + 1) n ∙ ap (λ x. range_with_len (a + 1) n ++ x ∷ []) (omega arith))

pub simplex_range : (a n : ℕ) → 1 ≤ a → n ≤ 12 → a + n ≤ 1000001 → IsTrue (is_simplex (range_with_len a n))
simplex_range a n h k m =
    simplex_from (range_with_len a n) (omega (arith, length-range_with_len a n))
    (all_from is_label (range_with_len a n) (λ x i. let r = from_range a n x i in label_from x (omega (arith, r.0)) (omega (arith, r.1))))
    (range_rising a n)

pub range_next : (i : ℕ) (front : List ℕ) → i + 1 ≤ 12 → front ≡ range_with_len 1 i → IsTrue (is_simplex (front ++ (i + 1) ∷ []))
range_next i front h e = subst (λ xs. IsTrue (is_simplex xs)) (range_more 1 i ∙ ap (λ x. range_with_len 1 i ++ x ∷ []) (omega arith) ∙ ap (λ xs. xs ++ (i + 1) ∷ []) (sym e)) (simplex_range 1 (suc i) (omega arith) (omega arith) (omega arith))

pub range_step : (i : ℕ) (front next : List ℕ) → front ≡ range_with_len 1 i → next ≡ front ++ (i + 1) ∷ [] → next ≡ range_with_len 1 (i + 1)
range_step i front next e f = f ∙ ap (λ xs. xs ++ (i + 1) ∷ []) e ∙ ap (λ x. range_with_len 1 i ++ x ∷ []) (omega arith) ∙ sym (range_more 1 i) ∙ ap (range_with_len 1) (sym (add-one i))
