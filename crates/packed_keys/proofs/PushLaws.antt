-- One label more.
use Rattle.std.proofs.Common.{◌≡◌, ℕ, zero, suc, ◌<◌, ◌≤◌, ◌+◌, ◌-◌, ◌*◌, ◌/◌, ◌%◌, ◌^◌, true, false, cond, List, [], ◌∷◌, ◌++◌, length, get_or, refl, sym, ap, ◌∙◌, arith, length-append}
use Rattle.std.specs.Prelude.{◌==◌}
use Rattle.std.specs.Bool.{IsTrue}
use Rattle.std.specs.List.{list_all}
use Rattle.std.proofs.lemmas.Bool.Decides.{nat_tests}
use Rattle.simplex.specs.Simplex.{is_label, is_simplex}
use Rattle.simplex.proofs.Decided.{equal_at}
use Rattle.simplex.proofs.Filled.{short_of, labels_of}
use Rattle.packed_keys.specs.Words.{word, AreWordsOf}
use Rattle.packed_keys.proofs.WordLaws.{label_low, count_of}

-- ---- places of a list that is one longer
at_last : (s : List ℕ) (l : ℕ) → get_or (s ++ l ∷ []) (length s) 0 ≡ l
at_last [] l = refl
at_last (a ∷ s) l = at_last s l

at_end : (s : List ℕ) → get_or s (length s) 0 ≡ 0
at_end [] = refl
at_end (a ∷ s) = at_end s

at_other : (s : List ℕ) (l i : ℕ) → (i ≡ length s → ⊥) → get_or (s ++ l ∷ []) i 0 ≡ get_or s i 0
at_other [] l zero n = absurd (n refl)
at_other [] l (suc i) n = refl
at_other (a ∷ s) l zero n = refl
at_other (a ∷ s) l (suc i) n = at_other s l i (λ e. n (ap suc e))

-- ---- words
pub word_low : (s : List ℕ) (k : ℕ) → list_all is_label s ≡ true → word s k + 16 ≤ 2 ^ 64
word_low s k h = omega (arith, label_low s (3 * k) h, label_low s (3 * k + 1) h, label_low s (3 * k + 2) h)

module _ (s : List ℕ) (l : ℕ) where
  word_here : (k j : ℕ) → length s ≡ 3 * k + j → j < 3 → word (s ++ l ∷ []) k ≡ word s k + l * 2 ^ (44 - 20 * j)
  word_here k zero e h =
      let x : get_or (s ++ l ∷ []) (3 * k) 0 ≡ l = ap (λ i. get_or (s ++ l ∷ []) i 0) (omega arith) ∙ at_last s l in
      let x2 : get_or s (3 * k) 0 ≡ 0 = ap (λ i. get_or s i 0) (omega arith) ∙ at_end s in
      let y = at_other s l (3 * k + 1) (λ f. omega arith) in
      let z = at_other s l (3 * k + 2) (λ f. omega arith) in
      omega arith
  word_here k (suc zero) e h =
      let x = at_other s l (3 * k) (λ f. omega arith) in
      let y : get_or (s ++ l ∷ []) (3 * k + 1) 0 ≡ l = ap (λ i. get_or (s ++ l ∷ []) i 0) (omega arith) ∙ at_last s l in
      let y2 : get_or s (3 * k + 1) 0 ≡ 0 = ap (λ i. get_or s i 0) (omega arith) ∙ at_end s in
      let z = at_other s l (3 * k + 2) (λ f. omega arith) in
      omega arith
  word_here k (suc (suc zero)) e h =
      let x = at_other s l (3 * k) (λ f. omega arith) in
      let y = at_other s l (3 * k + 1) (λ f. omega arith) in
      let z : get_or (s ++ l ∷ []) (3 * k + 2) 0 ≡ l = ap (λ i. get_or (s ++ l ∷ []) i 0) (omega arith) ∙ at_last s l in
      let z2 : get_or s (3 * k + 2) 0 ≡ 0 = ap (λ i. get_or s i 0) (omega arith) ∙ at_end s in
      omega arith
  word_here k (suc (suc (suc j))) e h = absurd (omega (arith, h))

  word_there : (k : ℕ) → (length s / 3 ≡ k → ⊥) → word (s ++ l ∷ []) k ≡ word s k
  word_there k n =
      let x = at_other s l (3 * k) (λ f. n (omega arith)) in
      let y = at_other s l (3 * k + 1) (λ f. n (omega arith)) in
      let z = at_other s l (3 * k + 2) (λ f. n (omega arith)) in
      omega arith

-- ---- the key with one label more
module _ (s : List ℕ) (a b c d l n bits : ℕ) (w : AreWordsOf s a b c d) (t : IsTrue (is_simplex (s ++ l ∷ []))) (e : n ≡ d % 16) (f : bits ≡ l * 2 ^ (44 - 20 * (n % 3))) where
  count : n ≡ length s
  count = e ∙ count_of s a b c d w

  here : (k : ℕ) → (n / 3 == k) ≡ true → word (s ++ l ∷ []) k ≡ word s k + bits
  here k h =
      let same : n / 3 ≡ k = equal_at (n / 3) k h in
      word_here s l k (n % 3) (omega (arith, count)) (omega arith) ∙ ap (λ x. word s k + x) (sym f)

  grown : (k x y : ℕ) → x ≡ word s k + y → cond (n / 3 == k) (x + bits) x ≡ word (s ++ l ∷ []) k + y
  grown k x y g =
      elim (n / 3 == k) as (λ v. (n / 3 == k) ≡ v → cond v (x + bits) x ≡ word (s ++ l ∷ []) k + y) [
        | true ↦ λ h. let r = here k h in omega arith
        | false ↦ λ h.
            let apart : length s / 3 ≡ k → ⊥ = λ q. let z : n / 3 ≡ k = ap (λ m. m / 3) count ∙ q in grind (arith, nat_tests) in
            let r = word_there s l k apart in omega arith
      ] refl

  same : (k x : ℕ) → x ≡ word s k → cond (n / 3 == k) (x + bits) x ≡ word (s ++ l ∷ []) k
  same k x g = grown k x 0 (omega (arith, g)) ∙ none (word (s ++ l ∷ []) k)
    where
      none : (m : ℕ) → m + 0 ≡ m
      none m = omega arith

  pub fits : (k x : ℕ) → x ≡ word s k → IsTrue (n / 3 == k) → x + bits < 2 ^ 64
  fits k x g h = let r = here k h in omega (arith, word_low (s ++ l ∷ []) k (labels_of (s ++ l ∷ []) t))

  pub fits_last : IsTrue (n / 3 == 3) → d + bits < 2 ^ 64
  fits_last h = let r = here 3 h in omega (arith, w.last, short_of s w.simplex, word_low (s ++ l ∷ []) 3 (labels_of (s ++ l ∷ []) t))

  pub fits_one : (u : ℕ) → u ≡ cond (n / 3 == 3) (d + bits) d → u + 1 < 2 ^ 64
  fits_one u g = let r = grown 3 d (length s) w.last in omega (arith, short_of s w.simplex, word_low (s ++ l ∷ []) 3 (labels_of (s ++ l ∷ []) t))

  pub pushed : (p q r u : ℕ) → p ≡ cond (n / 3 == 0) (a + bits) a → q ≡ cond (n / 3 == 1) (b + bits) b → r ≡ cond (n / 3 == 2) (c + bits) c → u ≡ cond (n / 3 == 3) (d + bits) d → AreWordsOf (s ++ l ∷ []) p q r (u + 1)
  pushed p q r u hp hq hr hu = record {
    simplex = t;
    first = hp ∙ same 0 a w.first;
    second = hq ∙ same 1 b w.second;
    third = hr ∙ same 2 c w.third;
    last = let g = grown 3 d (length s) w.last in let m = length-append s (l ∷ []) in omega arith;
  }
