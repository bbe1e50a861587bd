-- How labels come to lie in cells, and what parts of simplices are simplices.
use Rattle.std.proofs.Common.{◌≡◌, ℕ, suc, ◌<◌, ◌≤◌, ◌+◌, ◌-◌, ◌/◌, ◌%◌, Bool, true, false, cond, List, [], ◌∷◌, ◌++◌, length, take, drop, set, get_or, length-append, append_assoc, replicate, refl, sym, ap, ◌∙◌, subst, arith, add-one}
use Rattle.std.specs.Bool.{IsTrue}
use Rattle.std.specs.Prelude.{◌==◌}
use Rattle.std.proofs.lemmas.Bool.{le-leb, leb-true}
use Rattle.std.proofs.lemmas.List.{drop-replicate, drop-set-lt, length-set, drop-drop, take_more_set}
use Rattle.std.proofs.Math.Seq.{drop-cons}
use Rattle.std.specs.List.{list_all, filter}
use Rattle.std.specs.Ordering.{nat_cmp, is_lt}
use Rattle.simplex.specs.InOrder.{is_increasing}
use Rattle.simplex.specs.Simplex.{is_label, is_simplex, subset_at}
use Rattle.simplex.specs.Cells.{IsFilled, filled_len}
use Rattle.simplex.proofs.InOrderLaws.{and_left, and_right, and_both}
use Rattle.simplex.proofs.SimplexLaws.{list_all-filter, is_increasing-filter}

-- the three parts of `is_simplex`
pub short_of : (s : List ℕ) → IsTrue (is_simplex s) → length s ≤ 12
short_of s h = leb-true (length s) 12 (and_left _ (list_all is_label s) (and_left _ (is_increasing nat_cmp s) h))

pub labels_of : (s : List ℕ) → IsTrue (is_simplex s) → list_all is_label s ≡ true
labels_of s h = and_right _ (list_all is_label s) (and_left _ (is_increasing nat_cmp s) h)

pub rising_of : (s : List ℕ) → IsTrue (is_simplex s) → is_increasing nat_cmp s ≡ true
rising_of s h = and_right _ (is_increasing nat_cmp s) h

pub simplex_from : (s : List ℕ) → length s ≤ 12 → list_all is_label s ≡ true → is_increasing nat_cmp s ≡ true → IsTrue (is_simplex s)
simplex_from s h k m = and_both _ _ (and_both _ _ (le-leb (length s) 12 h) k) m

-- a front of a simplex is one
pub all_front : (p : ℕ → Bool) (xs ys : List ℕ) → list_all p (xs ++ ys) ≡ true → list_all p xs ≡ true
all_front p [] ys h = refl
all_front p (x ∷ xs) ys h = and_both _ _ (and_left _ _ h) (all_front p xs ys (and_right (p x) _ h))

pub rising_front : (xs ys : List ℕ) → is_increasing nat_cmp (xs ++ ys) ≡ true → is_increasing nat_cmp xs ≡ true
rising_front [] ys h = refl
rising_front (x ∷ xs) ys h =
    and_both _ _ (all_front (λ y. is_lt (nat_cmp x y)) xs ys (and_left _ _ h)) (rising_front xs ys (and_right (list_all (λ y. is_lt (nat_cmp x y)) (xs ++ ys)) _ h))

pub simplex_front : (xs ys : List ℕ) → IsTrue (is_simplex (xs ++ ys)) → IsTrue (is_simplex xs)
simplex_front xs ys h =
    simplex_from xs (omega (arith, short_of (xs ++ ys) h, length-append xs ys)) (all_front is_label xs ys (labels_of (xs ++ ys) h)) (rising_front xs ys (rising_of (xs ++ ys) h))

-- what is made so far, and its next label
pub next_part : (out more whole : List ℕ) (x : ℕ) → out ++ x ∷ more ≡ whole → IsTrue (is_simplex whole) → IsTrue (is_simplex (out ++ x ∷ []))
next_part out more whole x e h =
    simplex_front (out ++ x ∷ []) more (subst (λ w. IsTrue (is_simplex w)) (sym (append_assoc out (x ∷ []) more ∙ e)) h)

-- ---- cells
pub filled_push : (cells : List ℕ) (len label : ℕ) → IsFilled cells len → IsTrue (is_simplex (take len cells ++ label ∷ [])) → IsFilled (set cells len label) (len + 1)
filled_push cells len label h s =
    let room : len + 1 ≤ 12 = omega (arith, short_of (take len cells ++ label ∷ []) s, length-append (take len cells) (label ∷ []), filled_len cells len h) in
    let count : 12 - len - 1 ≡ 12 - (len + 1) = omega arith in
    record {
      whole = length-set cells len label ∙ h.whole;
      short = room;
      rest = drop-set-lt (len + 1) cells len label (omega arith) ∙ sym (drop-drop 1 len cells) ∙ ap (drop 1) h.rest ∙ drop-replicate 1 (12 - len) 0 ∙ ap (λ n. replicate n 0) count;
      simplex = subst (λ w. IsTrue (is_simplex w)) (sym (take_more_set cells len label (omega (arith, h.whole)))) s;
    }

-- ---- a simplex freed of labels
length-filter : (p : ℕ → Bool) (s : List ℕ) → length (filter p s) ≤ length s
length-filter p [] = omega arith
length-filter p (x ∷ s) =
    let rest = length-filter p s in
    elim (p x) as (λ v. length (cond v (x ∷ filter p s) (filter p s)) ≤ length (x ∷ s)) [ true ↦ omega arith | false ↦ omega arith ]

pub simplex-filter : (p : ℕ → Bool) (s : List ℕ) → IsTrue (is_simplex s) → IsTrue (is_simplex (filter p s))
simplex-filter p s h =
    simplex_from (filter p s) (omega (arith, length-filter p s, short_of s h)) (list_all-filter is_label p s (labels_of s h)) (is_increasing-filter nat_cmp p s (rising_of s h))

pub kept_next : (p : ℕ → Bool) (s : List ℕ) (i : ℕ) (out : List ℕ) → i < length s → p (get_or s i 0) ≡ true → IsTrue (is_simplex s) → out ++ filter p (drop i s) ≡ filter p s
    → IsTrue (is_simplex (out ++ get_or s i 0 ∷ []))
kept_next p s i out l t h e =
    let x = get_or s i 0 in
    let more = filter p (drop (suc i) s) in
    next_part out more (filter p s) x (sym (ap (λ ys. out ++ filter p ys) (drop-cons s i 0 l) ∙ ap (λ v. out ++ cond v (x ∷ more) more) t) ∙ e) (simplex-filter p s h)

-- ---- the labels at places
choice_all : (q : ℕ → Bool) (v : Bool) (a : ℕ) (t : List ℕ) → q a ≡ true → list_all q t ≡ true → list_all q (cond v (a ∷ t) t) ≡ true
choice_all q true a t h k = and_both _ _ h k
choice_all q false a t h k = k

subset_all : (q : ℕ → Bool) (s : List ℕ) (mask : ℕ) → list_all q s ≡ true → list_all q (subset_at s mask) ≡ true
subset_all q [] mask h = refl
subset_all q (a ∷ s) mask h = choice_all q (mask % 2 == 1) a (subset_at s (mask / 2)) (and_left _ _ h) (subset_all q s (mask / 2) (and_right (q a) _ h))

choice_rising : (v : Bool) (a : ℕ) (t : List ℕ) → list_all (λ b. is_lt (nat_cmp a b)) t ≡ true → is_increasing nat_cmp t ≡ true → is_increasing nat_cmp (cond v (a ∷ t) t) ≡ true
choice_rising true a t h k = and_both _ _ h k
choice_rising false a t h k = k

subset_rising : (s : List ℕ) (mask : ℕ) → is_increasing nat_cmp s ≡ true → is_increasing nat_cmp (subset_at s mask) ≡ true
subset_rising [] mask h = refl
subset_rising (a ∷ s) mask h =
    choice_rising (mask % 2 == 1) a (subset_at s (mask / 2)) (subset_all (λ b. is_lt (nat_cmp a b)) s (mask / 2) (and_left _ _ h))
    (subset_rising s (mask / 2) (and_right (list_all (λ b. is_lt (nat_cmp a b)) s) _ h))

choice_length : (v : Bool) (a n : ℕ) (t : List ℕ) → length t ≤ n → length (cond v (a ∷ t) t) ≤ n + 1
choice_length true a n t h = omega arith
choice_length false a n t h = omega arith

subset_length : (s : List ℕ) (mask : ℕ) → length (subset_at s mask) ≤ length s
subset_length [] mask = omega arith
subset_length (a ∷ s) mask = omega (arith, choice_length (mask % 2 == 1) a (length s) (subset_at s (mask / 2)) (subset_length s (mask / 2)))

pub simplex-subset_at : (s : List ℕ) (mask : ℕ) → IsTrue (is_simplex s) → IsTrue (is_simplex (subset_at s mask))
simplex-subset_at s mask h =
    simplex_from (subset_at s mask) (omega (arith, subset_length s mask, short_of s h)) (subset_all is_label s mask (labels_of s h)) (subset_rising s mask (rising_of s h))

pub bit_next : (s : List ℕ) (i bits mask : ℕ) (out : List ℕ) → i < length s → bits % 2 ≡ 1 → IsTrue (is_simplex s) → out ++ subset_at (drop i s) bits ≡ subset_at s mask
    → IsTrue (is_simplex (out ++ get_or s i 0 ∷ []))
bit_next s i bits mask out l t h e =
    let x = get_or s i 0 in
    let more = subset_at (drop (suc i) s) (bits / 2) in
    next_part out more (subset_at s mask) x (sym (ap (λ ys. out ++ subset_at ys bits) (drop-cons s i 0 l) ∙ ap (λ n. out ++ cond (n == 1) (x ∷ more) more) t) ∙ e) (simplex-subset_at s mask h)

-- the same where the labels are read from a list that is the set
pub kept_at : (p : ℕ → Bool) (s items : List ℕ) (i : ℕ) (out : List ℕ) → items ≡ s → i < length items → p (get_or items i 0) ≡ true → IsTrue (is_simplex s) → out ++ filter p (drop i s) ≡ filter p s
    → IsTrue (is_simplex (out ++ get_or items i 0 ∷ []))
kept_at p s items i out same l t h e =
    subst (λ xs. i < length xs → p (get_or xs i 0) ≡ true → IsTrue (is_simplex (out ++ get_or xs i 0 ∷ []))) (sym same) (λ l t. kept_next p s i out l t h e) l t

pub kept_whole : (p : ℕ → Bool) (s items : List ℕ) (i : ℕ) (out : List ℕ) → items ≡ s → length items ≤ i → IsTrue (is_simplex s) → out ++ filter p (drop i s) ≡ filter p s → IsTrue (is_simplex out)
kept_whole p s items i out same l h e = simplex_front out (filter p (drop i s)) (subst (λ w. IsTrue (is_simplex w)) (sym e) (simplex-filter p s h))

pub bit_at : (s items : List ℕ) (i bits mask : ℕ) (out : List ℕ) → items ≡ s → i < length items → bits % 2 ≡ 1 → IsTrue (is_simplex s) → out ++ subset_at (drop i s) bits ≡ subset_at s mask
    → IsTrue (is_simplex (out ++ get_or items i 0 ∷ []))
bit_at s items i bits mask out same l t h e =
    subst (λ xs. i < length xs → IsTrue (is_simplex (out ++ get_or xs i 0 ∷ []))) (sym same) (λ l. bit_next s i bits mask out l t h e) l

bit_split : (s : List ℕ) (i bits : ℕ) → i < length s → subset_at (drop i s) bits ≡ cond (bits % 2 == 1) (get_or s i 0 ∷ subset_at (drop (i + 1) s) (bits / 2)) (subset_at (drop (i + 1) s) (bits / 2))
bit_split s i bits l = ap (λ ys. subset_at ys bits) (drop-cons s i 0 l) ∙ ap (λ n. cond (bits % 2 == 1) (get_or s i 0 ∷ subset_at (drop n s) (bits / 2)) (subset_at (drop n s) (bits / 2))) (sym (add-one i))

pub bit_taken : (s items : List ℕ) (i bits mask : ℕ) (out : List ℕ) → items ≡ s → i < length items → bits % 2 ≡ 1 → out ++ subset_at (drop i s) bits ≡ subset_at s mask
    → (out ++ get_or items i 0 ∷ []) ++ subset_at (drop (i + 1) s) (bits / 2) ≡ subset_at s mask
bit_taken s items i bits mask out same l t e =
    let more = subset_at (drop (i + 1) s) (bits / 2) in
    ap (λ xs. (out ++ get_or xs i 0 ∷ []) ++ more) same ∙ append_assoc out (get_or s i 0 ∷ []) more
    ∙ ap (λ ys. out ++ ys) (ap (λ n. cond (n == 1) (get_or s i 0 ∷ more) more) (sym t) ∙ sym (bit_split s i bits (subst (λ xs. i < length xs) same l))) ∙ e

pub bit_left : (s items : List ℕ) (i bits mask : ℕ) (out : List ℕ) → items ≡ s → i < length items → (bits % 2 == 1) ≡ false → out ++ subset_at (drop i s) bits ≡ subset_at s mask
    → out ++ subset_at (drop (i + 1) s) (bits / 2) ≡ subset_at s mask
bit_left s items i bits mask out same l t e =
    let more = subset_at (drop (i + 1) s) (bits / 2) in
    ap (λ ys. out ++ ys) (ap (λ v. cond v (get_or s i 0 ∷ more) more) (sym t) ∙ sym (bit_split s i bits (subst (λ xs. i < length xs) same l))) ∙ e

pub bits_whole : (s : List ℕ) (i bits mask : ℕ) (out : List ℕ) → IsTrue (is_simplex s) → out ++ subset_at (drop i s) bits ≡ subset_at s mask → IsTrue (is_simplex out)
bits_whole s i bits mask out h e = simplex_front out (subset_at (drop i s) bits) (subst (λ w. IsTrue (is_simplex w)) (sym e) (simplex-subset_at s mask h))
