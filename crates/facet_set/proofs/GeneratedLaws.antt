-- What the steps of `generated` come to.
use Rattle.std.proofs.Common.{◌≡◌, ℕ, zero, suc, ◌+◌, ◌-◌, ◌*◌, ◌%◌, ◌^◌, ◌≤◌, ◌<◌, Bool, true, false, not, cond, ◌&&◌, ◌||◌, eqb, List, [], ◌∷◌, ◌++◌, length, take, get_or, refl, sym, ap, ◌∙◌, subst, ◌⊎◌, inl, inr, arith}
use mathlib.Core.Bool.{true≢false}
use Rattle.std.specs.Bool.{IsTrue}
use Rattle.std.specs.Prelude.{Result, Ok, Err, IfOk}
use Rattle.std.proofs.lemmas.Bool.Decides.{nat_tests}
use Rattle.std.specs.List.{list_any, filter, dedup}
use Rattle.std.specs.List.Sorted.{IsPermutation, IsSorted}
use Rattle.std.specs.Cmp.Lexicographic.{pointwise, nat_list_eq_equiv, texts_ties, bytes_decides}
use Rattle.std.proofs.lemmas.Cmp.{nat_list_cmp_total}
use Rattle.std.proofs.lemmas.List.Kept.{IsStrictlySortedBy-dedup, Contains-dedup, Contains-from_dedup}
use Rattle.std.proofs.lemmas.List.Sorted.{Contains-permutation, IsPermutation-sym}
use Rattle.std.proofs.lemmas.List.{take_more}
use Rattle.std.proofs.lemmas.Nat.{pow_pos, one_shl}
use Rattle.simplex.specs.Simplex.{is_within, is_same, is_simplex, simplex_cmp, subset_at}
use Rattle.simplex.proofs.Members.{In, first, later, cases, none, in_filter, from_filter, in_either, in_contains, contains_in, same_sets}
use Rattle.simplex.proofs.InOrderLaws.{and_left, and_right, and_both, is_increasing-in_order}
use Rattle.simplex.proofs.SimplexLaws.{list_any-append, is_increasing-filter, within_length, within_same}
use Rattle.simplex.proofs.FaultLaws.{increasing_from_sorted}
use Rattle.simplex.proofs.Filled.{rising_of}
use Rattle.simplex.proofs.SubsetLaws.{subset_within, number_of, one_number, full_subset}
use Rattle.simplex.proofs.Decided.{agree, false_from, or_right}
use Rattle.facet_set.specs.Complex.{simplices, is_proper_face, is_maximal_in, generated}
use Rattle.facet_set.proofs.ComplexLaws.{exact, same_from, same_itself, in_simplices, from_simplices, in_generated, from_generated, maximal_at, maximal_from}

pub record IsMeasured (shortest longest : ℕ) (s : List ℕ) : Type 0 where
  pub simplex : IsTrue (is_simplex s)
  pub shortest_is : shortest ≤ length s
  pub longest_is : length s ≤ longest

abbrev pub same : List ℕ → List ℕ → Bool
same = pointwise eqb

pub same_at : (s t : List ℕ) → same s t ≡ true → s ≡ t
same_at s t h = (bytes_decides s t).0 h

pub same_is : (s t : List ℕ) → same s t ≡ is_same s t
same_is s t = texts_ties s t

-- ---- a list that is sorted and freed of repeats
pub in_order_is : (list sorted : List (List ℕ)) → IsPermutation list sorted → IsSorted simplex_cmp sorted → dedup same sorted ≡ simplices list
in_order_is list sorted p s =
    same_sets nat_list_cmp_total exact (dedup same sorted) (simplices list)
    (increasing_from_sorted simplex_cmp (dedup same sorted) (IsStrictlySortedBy-dedup nat_list_cmp_total texts_ties sorted s))
    (is_increasing-in_order nat_list_cmp_total list)
    (λ q i. in_simplices q list (contains_in list q (Contains-permutation sorted list q (IsPermutation-sym list sorted p) (Contains-from_dedup same sorted q (in_contains (dedup same sorted) q i)))))
    (λ q i. contains_in (dedup same sorted) q (Contains-dedup nat_list_eq_equiv same_at sorted q (Contains-permutation list sorted q p (in_contains list q (from_simplices q list i)))))

-- ---- one more member
pub taken_in : (xs : List (List ℕ)) (i : ℕ) (d s : List ℕ) → i < length xs → In s (take (i + 1) xs) → In s (take i xs) ⊎ (s ≡ get_or xs i d)
taken_in xs i d s h k = elim (in_either s (take i xs) (get_or xs i d ∷ []) (subst (λ l. In s l) (take_more xs i d h) k)) [
  | inl j ↦ inl j
  | inr j ↦ elim (cases j) [ inl e ↦ inr e | inr n ↦ absurd (none s n) ]
]

-- ---- the proper faces of a simplex, by the numbers that were gone over
abbrev pub is_reached : List ℕ → ℕ → List ℕ → Bool
is_reached s zero t = false
is_reached s (suc m) t = is_reached s m t || same t (subset_at s m)

proper_at : (t s : List ℕ) → is_proper_face t s ≡ true → (is_within t s ≡ true) × (t ≡ s → ⊥)
proper_at t s h = (and_left _ _ h, λ e. true≢false (sym (ap (is_same t) (sym e) ∙ same_itself t) ∙ off (is_same t s) (and_right (is_within t s) _ h)))
  where
    off : (v : Bool) → not v ≡ true → v ≡ false
    off true k = sym k
    off false k = refl

proper_from : (t s : List ℕ) → is_within t s ≡ true → (t ≡ s → ⊥) → is_proper_face t s ≡ true
proper_from t s w f = and_both _ _ w (ap not (false_from (is_same t s) (λ e. f (same_from t s e))))

-- no simplex lies properly in one that is no longer
pub no_face : (s t : List ℕ) → IsTrue (is_simplex s) → IsTrue (is_simplex t) → length s ≤ length t → is_proper_face t s ≡ false
no_face s t h k n =
    false_from _ (λ p.
    let q = proper_at t s p in
    let l = within_length t s (rising_of t k) (rising_of s h) q.0 in
    q.1 (within_same t s (rising_of t k) (rising_of s h) q.0 (omega arith)))

pub reached_at : (s : List ℕ) (n : ℕ) (t : List ℕ) → is_reached s n t ≡ true → (m : ℕ) × (m < n) × (t ≡ subset_at s m)
reached_at s zero t h = cc
reached_at s (suc n) t h =
    elim (is_reached s n t) as (λ v. is_reached s n t ≡ v → (v || same t (subset_at s n)) ≡ true → (m : ℕ) × (m < suc n) × (t ≡ subset_at s m)) [
      | true ↦ λ e k. let r = reached_at s n t e in (r.0, omega (arith, r.1), r.2)
      | false ↦ λ e k. (n, omega arith, same_at t (subset_at s n) k)
    ] refl h

pub reached_from : (s : List ℕ) (n : ℕ) (t : List ℕ) (m : ℕ) → m < n → subset_at s m ≡ t → is_reached s n t ≡ true
reached_from s zero t m h e = absurd (omega arith)
reached_from s (suc n) t m h e =
    elim (eqb m n) as (λ v. eqb m n ≡ v → (is_reached s n t || same t (subset_at s n)) ≡ true) [
      | true ↦ λ q.
          let f : m ≡ n = grind (arith, nat_tests) in
          or_right (is_reached s n t) (same t (subset_at s n)) (ap (same t) (sym (ap (subset_at s) f) ∙ e) ∙ same_is t t ∙ same_itself t)
      | false ↦ λ q. let f : m < n = grind (arith, nat_tests) in ap (λ v. v || same t (subset_at s n)) (reached_from s n t m f e)
    ] refl

-- the numbers below the last one have just the proper faces
pub reached_is : (s t : List ℕ) (n : ℕ) → IsTrue (is_simplex s) → IsTrue (is_simplex t) → n + 1 ≡ 2 ^ length s → is_reached s n t ≡ is_proper_face t s
reached_is s t n h k e = agree _ _
    (λ r. let q = reached_at s n t r in
    proper_from t s (ap (λ l. is_within l s) q.2 ∙ subset_within s q.0) (λ f. let one = one_number s q.0 n (rising_of s h) (omega (arith, q.1)) (omega arith) (sym q.2 ∙ f ∙ sym (full_subset s n e)) in omega (arith, one, q.1)))
    (λ p. let q = proper_at t s p in
    let r = number_of s t (rising_of s h) (rising_of t k) q.0 in
    reached_from s n t r.0 (below r.0 r.1 (λ f. q.1 (sym r.2 ∙ ap (subset_at s) f ∙ full_subset s n e))) r.2)
  where
    below : (m : ℕ) → m < 2 ^ length s → (m ≡ n → ⊥) → m < n
    below m l f = elim (eqb m n) as (λ v. eqb m n ≡ v → m < n) [ true ↦ λ q. absurd (f (grind (arith, nat_tests))) | false ↦ λ q. (let d : (m ≡ n → ⊥) = f in grind (arith, nat_tests, e, l)) ] refl

-- ---- members that lie properly in no other
pub maximal_more : (l : List (List ℕ)) (s t : List ℕ) → is_maximal_in (l ++ s ∷ []) t ≡ (is_maximal_in l t && not (is_proper_face t s))
maximal_more l s t = ap not (list_any-append (is_proper_face t) l (s ∷ [])) ∙ neither (list_any (is_proper_face t) l) (is_proper_face t s)
  where
    neither : (v w : Bool) → not (v || (w || false)) ≡ (not v && not w)
    neither true w = refl
    neither false true = refl
    neither false false = refl

pub out_more : (l : List (List ℕ)) (i : ℕ) (s t : List ℕ) (a b c : Bool) → i < length l → s ≡ get_or l i s → c ≡ (b && not (is_proper_face t s)) → b ≡ (a && is_maximal_in (take i l) t) → c ≡ (a && is_maximal_in (take (i + 1) l) t)
out_more l i s t a b c h e f g =
    f ∙ ap (λ v. v && not (is_proper_face t s)) g ∙ assoc a (is_maximal_in (take i l) t) (not (is_proper_face t s)) ∙ ap (λ v. a && v) (sym (maximal_more (take i l) s t))
    ∙ ap (λ k. a && is_maximal_in k t) (sym (take_more l i s h ∙ ap (λ x. take i l ++ x ∷ []) (sym e)))
  where
    assoc : (u v w : Bool) → ((u && v) && w) ≡ (u && (v && w))
    assoc true v w = refl
    assoc false v w = refl

pub filter_same : (p q : List ℕ → Bool) (l : List (List ℕ)) → ((s : List ℕ) → In s l → p s ≡ q s) → filter p l ≡ filter q l
filter_same p q [] f = refl
filter_same p q (s ∷ l) f = ap (λ b. cond b (s ∷ filter p l) (filter p l)) (f s first) ∙ ap (λ k. cond (q s) (s ∷ k) k) (filter_same p q l (λ t i. f t (later i)))

pub filter_all : (p : List ℕ → Bool) (l : List (List ℕ)) → ((s : List ℕ) → In s l → p s ≡ true) → filter p l ≡ l
filter_all p [] f = refl
filter_all p (s ∷ l) f = ap (λ b. cond b (s ∷ filter p l) (filter p l)) (f s first) ∙ ap (λ k. s ∷ k) (filter_all p l (λ t i. f t (later i)))

-- the longest lie in no other
pub longest_maximal : (l : List (List ℕ)) (s : List ℕ) → ((t : List ℕ) → In t l → IsTrue (is_simplex t)) → IsTrue (is_simplex s) → ((t : List ℕ) → In t l → length t ≤ length s) → is_maximal_in l s ≡ true
longest_maximal l s h k f = maximal_from l s (λ t i. no_face t s (h t i) k (f t i))

pub all_kept : (l : List (List ℕ)) (low high : ℕ) → ((s : List ℕ) → In s l → IsTrue (is_simplex s)) → ((s : List ℕ) → In s l → low ≤ length s) → ((s : List ℕ) → In s l → length s ≤ high) → low ≡ high → l ≡ filter (is_maximal_in l) l
all_kept l low high h f g e = sym (filter_all (is_maximal_in l) l (λ s i. longest_maximal l s h (h s i) (λ t j. let a = f s i in let b = g t j in omega arith)))

pub kept_is : (l : List (List ℕ)) (low high : ℕ) (before after : List ℕ → Bool) → ((s : List ℕ) → In s l → IsTrue (is_simplex s)) → ((s : List ℕ) → In s l → low ≤ length s) → ((s : List ℕ) → In s l → length s ≤ high)
    → ((s : List ℕ) → In s l → length s < high → before s ≡ true) → ((t : List ℕ) → IsTrue (is_simplex t) → low ≤ length t → after t ≡ (before t && is_maximal_in l t))
    → filter (λ s. eqb (length s) high || after s) l ≡ filter (is_maximal_in l) l
kept_is l low high before after h f g b a = filter_same (λ s. eqb (length s) high || after s) (is_maximal_in l) l (λ s i.
    elim (eqb (length s) high) as (λ v. eqb (length s) high ≡ v → (v || after s) ≡ is_maximal_in l s) [
      | true ↦ λ e. let q : length s ≡ high = grind (arith, nat_tests) in sym (longest_maximal l s h (h s i) (λ t j. let k = g t j in omega arith))
      | false ↦ λ e. let top = g s i in let q : length s < high = grind (arith, nat_tests) in a s (h s i) (f s i) ∙ ap (λ v. v && is_maximal_in l s) (b s i q)
    ] refl)

-- the members of the list in order that lie properly in no other are what the list generates
pub generated_is : (list : List (List ℕ)) → filter (is_maximal_in (simplices list)) (simplices list) ≡ generated list
generated_is list =
    same_sets nat_list_cmp_total exact (filter (is_maximal_in (simplices list)) (simplices list)) (generated list)
    (is_increasing-filter simplex_cmp (is_maximal_in (simplices list)) (simplices list) (is_increasing-in_order nat_list_cmp_total list))
    (is_increasing-in_order nat_list_cmp_total (filter (is_maximal_in list) list))
    (λ s i. let r = from_filter (is_maximal_in (simplices list)) s (simplices list) i in
    in_generated s list (from_simplices s list r.0) (maximal_from list s (λ t j. maximal_at (simplices list) s t r.1 (in_simplices t list j))))
    (λ s i. let r = from_generated s list i in
    in_filter (is_maximal_in (simplices list)) s (simplices list) (in_simplices s list r.0) (maximal_from (simplices list) s (λ t j. maximal_at list s t r.1 (from_simplices t list j))))

pub if_ok : {A E : Type 0} (P Q : A → Type 0) (r : Result A E) → ((x : A) → P x → Q x) → IfOk r P → IfOk r Q
if_ok P Q (Ok x) f h = f x h
if_ok P Q (Err e) f h = h

pub measured_more : (xs : List (List ℕ)) (i : ℕ) (x s : List ℕ) (low high lower higher : ℕ) → i < length xs → x ≡ get_or xs i x → IsTrue (is_simplex x)
    → lower ≤ length x → lower ≤ low → length x ≤ higher → high ≤ higher
    → ((t : List ℕ) → In t (take i xs) → IsMeasured low high t) → In s (take (i + 1) xs) → IsMeasured lower higher s
measured_more xs i x s low high lower higher h e k a b c d f j = elim (taken_in xs i x s h j) [
  | inl m ↦ let r = f s m in record { simplex = r.simplex; shortest_is = omega (arith, r.shortest_is, b); longest_is = omega (arith, r.longest_is, d) }
  | inr q ↦
      let is : s ≡ x = q ∙ sym e in
      record { simplex = subst (λ y. IsTrue (is_simplex y)) (sym is) k; shortest_is = omega (arith, a, ap length is); longest_is = omega (arith, c, ap length is) }
]

pub and_true : (v w : Bool) → w ≡ true → (v && w) ≡ v
and_true true w h = h
and_true false w h = refl

-- the last number of the subsets of a simplex of n labels, as the machine has it
pub last_number : (n m : ℕ) → n ≤ 12 → 1 * 2 ^ n % 2 ^ 32 - 1 ≤ m → m ≤ 1 * 2 ^ n % 2 ^ 32 - 1 → m + 1 ≡ 2 ^ n
last_number n m h k l =
    let some : 0 < 2 ^ n = pow_pos n in
    let whole : 1 * 2 ^ n % 2 ^ 32 ≡ 2 ^ n = one_shl n 32 (omega arith) in
    omega arith
