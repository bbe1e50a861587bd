-- The labels of a key one after another, and the simplex that they make.
use Rattle.std.proofs.Common.{◌≡◌, ℕ, zero, suc, ◌<◌, ◌≤◌, ◌+◌, ◌-◌, ◌*◌, ◌/◌, ◌%◌, ◌^◌, true, false, eqb, List, [], ◌∷◌, ◌++◌, length, take, drop, get_or, set, Result, Some, Ok, Err, refl, sym, ap, ◌∙◌, subst, arith, take-append-drop}
use Rattle.std.specs.Bool.{IsTrue}
use Rattle.std.specs.List.{list_all, slice_get, IsDistinct, AllByRecursion}
use Rattle.std.specs.Ordering.{nat_cmp, is_lt}
use Rattle.std.specs.FinMap.{nat_cmp-IsAntisymmetric}
use Rattle.std.proofs.lemmas.Bool.Decides.{nat_tests}
use Rattle.std.proofs.lemmas.Cmp.{nat_cmp_total}
use Rattle.simplex.specs.FirstFailing.{unless_fault}
use Rattle.simplex.specs.InOrder.{is_increasing}
use Rattle.simplex.specs.Simplex.{is_label, is_simplex, subset_at}
use Rattle.simplex.specs.SimplexFault.{simplex_of, set as set_of}
use Rattle.simplex.specs.declared.simplex_fault.SimplexFault.{SimplexFault}
use Rattle.simplex.proofs.InOrderLaws.{and_left, and_right, in_order_again}
use Rattle.simplex.proofs.FaultLaws.{faultless_from}
use Rattle.simplex.proofs.Filled.{short_of, labels_of, rising_of, simplex_front, bit_taken}
use Rattle.std.proofs.lemmas.List.Elements.{All-from_recursion}
use Rattle.std.proofs.lemmas.List.{take_more, take_more_set, length-set, take_all}
use Rattle.std.proofs.lemmas.Option.{get_or_from_slice_get, slice_get-get_or}
use Rattle.packed_keys.specs.Words.{word, AreWordsOf}
use Rattle.packed_keys.proofs.WordLaws.{label_low}

-- ---- the label at a place
digit : (s : List ℕ) (q j w r : ℕ) → list_all is_label s ≡ true → w ≡ word s q + r → r < 16 → j < 3 → w / 2 ^ (44 - 20 * j) % 2 ^ 20 ≡ get_or s (3 * q + j) 0
digit s q zero w r h e l m =
    let x = label_low s (3 * q) h in
    let y = label_low s (3 * q + 1) h in
    let z = label_low s (3 * q + 2) h in
    let f : w / 2 ^ 44 % 2 ^ 20 ≡ get_or s (3 * q) 0 = omega arith in
    f ∙ ap (λ i. get_or s i 0) (omega arith)
digit s q (suc zero) w r h e l m =
    let x = label_low s (3 * q) h in
    let y = label_low s (3 * q + 1) h in
    let z = label_low s (3 * q + 2) h in
    let f : w / 2 ^ 24 % 2 ^ 20 ≡ get_or s (3 * q + 1) 0 = omega arith in
    f
digit s q (suc (suc zero)) w r h e l m =
    let x = label_low s (3 * q) h in
    let y = label_low s (3 * q + 1) h in
    let z = label_low s (3 * q + 2) h in
    let f : w / 2 ^ 4 % 2 ^ 20 ≡ get_or s (3 * q + 2) 0 = omega arith in
    f
digit s q (suc (suc (suc j))) w r h e l m = absurd (omega (arith, m))

read : (s : List ℕ) (k q w r x : ℕ) → list_all is_label s ≡ true → k < length s → k / 3 ≡ q → w ≡ word s q + r → r < 16 → x ≡ w / 2 ^ (44 - 20 * (k % 3)) % 2 ^ 20 → slice_get s k ≡ Some x
read s k q w r x h l e f m g =
    slice_get-get_or s k 0 l ∙ ap Some (ap (λ i. get_or s i 0) (omega arith) ∙ sym (digit s q (k % 3) w r h f m (omega arith)) ∙ sym g)

module _ (s : List ℕ) (a b c d k x w : ℕ) (p : AreWordsOf s a b c d) (l : k < length s) (g : x ≡ w / 2 ^ (44 - 20 * (k % 3)) % 2 ^ 20) where
  pub read_first : k / 3 ≡ 0 → w ≡ a → slice_get s k ≡ Some x
  read_first e f = read s k 0 w 0 x (labels_of s p.simplex) l e (omega (arith, p.first)) (omega arith) g

  pub read_second : k / 3 ≡ 1 → w ≡ b → slice_get s k ≡ Some x
  read_second e f = read s k 1 w 0 x (labels_of s p.simplex) l e (omega (arith, p.second)) (omega arith) g

  pub read_third : k / 3 ≡ 2 → w ≡ c → slice_get s k ≡ Some x
  read_third e f = read s k 2 w 0 x (labels_of s p.simplex) l e (omega (arith, p.third)) (omega arith) g

  pub read_last : (k / 3 ≡ 0 → ⊥) → (k / 3 ≡ 1 → ⊥) → (k / 3 ≡ 2 → ⊥) → w ≡ d → slice_get s k ≡ Some x
  read_last e1 e2 e3 f =
      let few = short_of s p.simplex in
      let e : k / 3 ≡ 3 = grind (arith) in
      read s k 3 w (length s) x (labels_of s p.simplex) l e (f ∙ p.last) (omega arith) g

-- ---- a simplex is the set of its labels, which have no fault
apart_from : (x : ℕ) (s : List ℕ) → list_all (λ y. is_lt (nat_cmp x y)) s ≡ true → AllByRecursion (λ y. eqb x y ≡ false) s
apart_from x [] h = tt
apart_from x (y ∷ s) h = (one (and_left _ _ h), apart_from x s (and_right (is_lt (nat_cmp x y)) _ h))
  where
    one : is_lt (nat_cmp x y) ≡ true → eqb x y ≡ false
    one e = grind (arith, nat_tests)

distinct_labels : (s : List ℕ) → is_increasing nat_cmp s ≡ true → IsDistinct eqb s
unfolding IsDistinct
distinct_labels [] h = tt
distinct_labels (x ∷ s) h = (apart_from x s (and_left _ _ h), distinct_labels s (and_right (list_all (λ y. is_lt (nat_cmp x y)) s) _ h))

each_label : (s : List ℕ) → list_all is_label s ≡ true → AllByRecursion (λ a. IsTrue (is_label a)) s
each_label [] h = tt
each_label (x ∷ s) h = (and_left _ _ h, each_label s (and_right (is_label x) _ h))

pub made_again : (s : List ℕ) → IsTrue (is_simplex s) → simplex_of s ≡ Ok s
made_again s h =
    ap (λ f. unless_fault f (set_of s)) (faultless_from s (short_of s h) (All-from_recursion (λ a. IsTrue (is_label a)) s (each_label s (labels_of s h))) (distinct_labels s (rising_of s h)))
    ∙ ap Ok (in_order_again nat_cmp_total nat_cmp-IsAntisymmetric s (rising_of s h))

pub cells_more : (s cells : List ℕ) (k x : ℕ) → length cells ≡ 12 → length s ≤ 12 → k < length s → slice_get s k ≡ Some x → take k cells ≡ take k s
    → (length (set cells k x) ≡ 12) × (take (k + 1) (set cells k x) ≡ take (k + 1) s)
cells_more s cells k x w f l g e = (
  length-set cells k x ∙ w,
  take_more_set cells k x (omega arith) ∙ (λ i. e i ++ sym (get_or_from_slice_get s k x 0 g) i ∷ []) ∙ sym (take_more s k 0 l),
)

pub cells_whole : (s cells : List ℕ) (k end n : ℕ) → end ≡ length s → n ≡ length s → end ≤ k → k ≤ end → take k cells ≡ take k s → take n cells ≡ s
cells_whole s cells k end n e f g h m =
    let same : n ≡ k = omega arith in
    ap (λ j. take j cells) same ∙ m ∙ take_all k s (omega arith)

pub sure : (s t : List ℕ) (r : Result (List ℕ) SimplexFault) (e : SimplexFault) → IsTrue (is_simplex s) → t ≡ s → r ≡ simplex_of t → r ≡ Err e → ⊥
sure s t r e h f g k = let m = made_again s h in cc

pub same_simplex : (s t u : List ℕ) (r : Result (List ℕ) SimplexFault) → IsTrue (is_simplex s) → t ≡ s → r ≡ simplex_of t → r ≡ Ok u → u ≡ s
same_simplex s t u r h f g k = ok_is u s r k (g ∙ ap simplex_of f ∙ made_again s h)
  where
    ok_is : (x y : List ℕ) (r : Result (List ℕ) SimplexFault) → r ≡ Ok x → r ≡ Ok y → x ≡ y
    ok_is x y r h k = cc

-- ---- labels put in one after another
pub next_label : (s items : List ℕ) (i : ℕ) → items ≡ s → i < length items → IsTrue (is_simplex s) → IsTrue (is_simplex (take i items ++ get_or items i 0 ∷ []))
next_label s items i e l h =
    subst (λ x. IsTrue (is_simplex x)) (take_more items i 0 l)
    (simplex_front (take (i + 1) items) (drop (i + 1) items) (subst (λ x. IsTrue (is_simplex x)) (sym e ∙ sym (take-append-drop (i + 1) items)) h))

pub next_chosen : (s : List ℕ) (i bits mask : ℕ) (out : List ℕ) → i < length s → bits % 2 ≡ 1 → IsTrue (is_simplex (subset_at s mask)) → out ++ subset_at (drop i s) bits ≡ subset_at s mask
    → IsTrue (is_simplex (out ++ get_or s i 0 ∷ []))
next_chosen s i bits mask out l t h e =
    simplex_front (out ++ get_or s i 0 ∷ []) (subset_at (drop (i + 1) s) (bits / 2)) (subst (λ x. IsTrue (is_simplex x)) (sym (bit_taken s s i bits mask out refl l t e)) h)
