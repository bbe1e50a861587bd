-- The order of the words is that of the simplices.
use Rattle.std.proofs.Common.{◌≡◌, ℕ, zero, suc, ◌<◌, ◌≤◌, ◌+◌, ◌*◌, ◌^◌, true, List, [], ◌∷◌, ◌++◌, length, get_or, refl, sym, ap, ◌∙◌, inl, inr, arith}
use Rattle.std.specs.Prelude.{nat_eq}
use Rattle.std.specs.List.{list_all}
use Rattle.std.specs.Ordering.{nat_cmp, ordering_then}
use Rattle.std.specs.Cmp.{nat_cmp_is, unsigned_Decides}
use Rattle.std.specs.Cmp.Lexicographic.{slice_cmp, pointwise, pointwise_decides}
use Rattle.std.specs.declared.cmp.Ordering.{Ordering}
use Rattle.std.specs.declared.cmp.Ordering.TheVariants.{Less, Equal, Greater}
use Rattle.std.proofs.lemmas.Bool.{cases_lt}
use Rattle.std.proofs.lemmas.Bool.Decides.{nat_tests}
use Rattle.std.proofs.lemmas.Cmp.{nat_list_cmp_total, tied_itself}
use Rattle.simplex.specs.Simplex.{is_label}
use Rattle.simplex.proofs.Decided.{agree, equal_at, equal_from}
use Rattle.simplex.proofs.InOrderLaws.{and_left, and_right}
use Rattle.simplex.proofs.Filled.{short_of, labels_of}
use Rattle.packed_keys.specs.Words.{word_of, word, unpacked, AreWordsOf}
use Rattle.packed_keys.proofs.WordLaws.{label_low, padded, row_is, unpacked_is}

-- ---- one number after another decides
less : (x y : ℕ) → x < y → nat_cmp x y ≡ Less
less x y h = sym (nat_cmp_is x y Less h)

greater : (x y : ℕ) → y < x → nat_cmp x y ≡ Greater
greater x y h = sym (nat_cmp_is x y Greater h)

same : (x y : ℕ) → x ≡ y → nat_cmp x y ≡ Equal
same x y h = sym (nat_cmp_is x y Equal h)

by_first : (x y v w : ℕ) (o : Ordering) → (x < y → v < w) → (y < x → w < v) → (x ≡ y → nat_cmp v w ≡ o) → nat_cmp v w ≡ ordering_then (nat_cmp x y) o
by_first x y v w o f g h = elim (cases_lt x y) [
  | inl l ↦ less v w (f l) ∙ ap (λ r. ordering_then r o) (sym (less x y l))
  | inr l ↦ elim (cases_lt y x) [
    | inl m ↦ greater v w (g m) ∙ ap (λ r. ordering_then r o) (sym (greater x y m))
    | inr m ↦ let e : x ≡ y = omega arith in h e ∙ ap (λ r. ordering_then r o) (sym (same x y e))
  ]
]

by_last : (x y v w : ℕ) → (x < y → v < w) → (y < x → w < v) → (x ≡ y → v ≡ w) → nat_cmp v w ≡ nat_cmp x y
by_last x y v w f g h = by_first x y v w Equal f g (λ e. same v w (h e)) ∙ end (nat_cmp x y)
  where
    end : (o : Ordering) → ordering_then o Equal ≡ o
    end Less = refl
    end Equal = refl
    end Greater = refl

abbrev chain : List Ordering → Ordering → Ordering
chain [] o = o
chain (x ∷ xs) o = ordering_then x (chain xs o)

then_assoc : (a b c : Ordering) → ordering_then (ordering_then a b) c ≡ ordering_then a (ordering_then b c)
then_assoc Less b c = refl
then_assoc Equal b c = refl
then_assoc Greater b c = refl

then_chain : (xs : List Ordering) (o : Ordering) → ordering_then (chain xs Equal) o ≡ chain xs o
then_chain [] o = refl
then_chain (x ∷ xs) o = then_assoc x (chain xs Equal) o ∙ ap (ordering_then x) (then_chain xs o)

-- ---- words
word_cmp : (x y z r x2 y2 z2 r2 : ℕ) → x < 2 ^ 20 → y < 2 ^ 20 → z < 2 ^ 20 → r < 16 → x2 < 2 ^ 20 → y2 < 2 ^ 20 → z2 < 2 ^ 20 → r2 < 16
    → nat_cmp (word_of x y z + r) (word_of x2 y2 z2 + r2) ≡ ordering_then (nat_cmp x x2) (ordering_then (nat_cmp y y2) (ordering_then (nat_cmp z z2) (nat_cmp r r2)))
word_cmp x y z r x2 y2 z2 r2 hx hy hz hr kx ky kz kr =
    let v = word_of x y z + r in
    let w = word_of x2 y2 z2 + r2 in
    by_first x x2 v w _ (λ l. omega arith) (λ l. omega arith)
    (λ e. by_first y y2 v w _ (λ l. omega arith) (λ l. omega arith)
    (λ f. by_first z z2 v w _ (λ l. omega arith) (λ l. omega arith)
    (λ g. by_last r r2 v w (λ l. omega arith) (λ l. omega arith) (λ h. omega arith))))

-- ---- lists up to a length, and then the length
positive : (a : ℕ) → is_label a ≡ true → 0 < a
positive a h = grind (arith, nat_tests)

cmp_suc : (m n : ℕ) → nat_cmp (suc m) (suc n) ≡ nat_cmp m n
cmp_suc m n = by_last m n (suc m) (suc n) (λ l. omega (arith, l)) (λ l. omega (arith, l)) (λ e. ap suc e)

padded_cmp : (n : ℕ) (s t : List ℕ) → length s ≤ n → length t ≤ n → list_all is_label s ≡ true → list_all is_label t ≡ true
    → ordering_then (slice_cmp nat_cmp (padded n s) (padded n t)) (nat_cmp (length s) (length t)) ≡ slice_cmp nat_cmp s t
padded_cmp n [] [] h k u v = ap (λ o. ordering_then o (nat_cmp 0 0)) (tied_itself nat_list_cmp_total (padded n []))
padded_cmp zero [] (y ∷ t) h k u v = absurd (omega (arith, k))
padded_cmp (suc n) [] (y ∷ t) h k u v =
    ap (λ o. ordering_then (ordering_then o (slice_cmp nat_cmp (padded n []) (padded n t))) (nat_cmp 0 (length (y ∷ t)))) (less 0 y (positive y (and_left _ _ v)))
padded_cmp zero (x ∷ s) t h k u v = absurd (omega (arith, h))
padded_cmp (suc n) (x ∷ s) [] h k u v =
    ap (λ o. ordering_then (ordering_then o (slice_cmp nat_cmp (padded n s) (padded n []))) (nat_cmp (length (x ∷ s)) 0)) (greater x 0 (positive x (and_left _ _ u)))
padded_cmp (suc n) (x ∷ s) (y ∷ t) h k u v =
    then_assoc (nat_cmp x y) (slice_cmp nat_cmp (padded n s) (padded n t)) (nat_cmp (length (x ∷ s)) (length (y ∷ t)))
    ∙ ap (λ o. ordering_then (nat_cmp x y) (ordering_then (slice_cmp nat_cmp (padded n s) (padded n t)) o)) (cmp_suc (length s) (length t))
    ∙ ap (ordering_then (nat_cmp x y)) (padded_cmp n s t (omega (arith, h)) (omega (arith, k)) (and_right (is_label x) _ u) (and_right (is_label y) _ v))

-- ---- the four words of a simplex
abbrev places : List ℕ → List ℕ → ℕ → List Ordering
places s t i = nat_cmp (get_or s i 0) (get_or t i 0) ∷ nat_cmp (get_or s (i + 1) 0) (get_or t (i + 1) 0) ∷ nat_cmp (get_or s (i + 2) 0) (get_or t (i + 2) 0) ∷ []

word_chain : (s t : List ℕ) (k m n : ℕ) → list_all is_label s ≡ true → list_all is_label t ≡ true → m < 16 → n < 16
    → nat_cmp (word s k + m) (word t k + n) ≡ chain (places s t (3 * k)) (nat_cmp m n)
word_chain s t k m n h g l r =
    word_cmp _ _ _ m _ _ _ n (label_low s (3 * k) h) (label_low s (3 * k + 1) h) (label_low s (3 * k + 2) h) l (label_low t (3 * k) g) (label_low t (3 * k + 1) g) (label_low t (3 * k + 2) g) r

word_alone : (s t : List ℕ) (k : ℕ) (o : Ordering) → list_all is_label s ≡ true → list_all is_label t ≡ true → ordering_then (nat_cmp (word s k) (word t k)) o ≡ chain (places s t (3 * k)) o
word_alone s t k o h g =
    let e : nat_cmp (word s k) (word t k) ≡ chain (places s t (3 * k)) Equal =
    (λ i. nat_cmp (none (word s k) i) (none (word t k) i)) ∙ word_chain s t k 0 0 h g (omega arith) (omega arith) in
    ap (λ x. ordering_then x o) e ∙ then_chain (places s t (3 * k)) o
  where
    none : (m : ℕ) → m ≡ m + 0
    none m = omega arith

words_cmp : (s t : List ℕ) (a b c d p q r u : ℕ) → AreWordsOf s a b c d → AreWordsOf t p q r u
    → ordering_then (nat_cmp a p) (ordering_then (nat_cmp b q) (ordering_then (nat_cmp c r) (nat_cmp d u))) ≡ slice_cmp nat_cmp s t
words_cmp s t a b c d p q r u v w =
    let x = labels_of s v.simplex in
    let y = labels_of t w.simplex in
    let m = nat_cmp (length s) (length t) in
    (λ i. ordering_then (nat_cmp (v.first i) (w.first i)) (ordering_then (nat_cmp (v.second i) (w.second i)) (ordering_then (nat_cmp (v.third i) (w.third i)) (nat_cmp (v.last i) (w.last i)))))
    ∙ word_alone s t 0 _ x y
    ∙ ap (chain (places s t 0)) (word_alone s t 1 _ x y
    ∙ ap (chain (places s t 3)) (word_alone s t 2 _ x y
    ∙ ap (chain (places s t 6)) (word_chain s t 3 (length s) (length t) x y (omega (arith, short_of s v.simplex)) (omega (arith, short_of t w.simplex)))))
    ∙ sym (then_chain (places s t 0 ++ places s t 3 ++ places s t 6 ++ places s t 9) m)
    ∙ (λ i. ordering_then (slice_cmp nat_cmp (row_is s 12 i) (row_is t 12 i)) m)
    ∙ padded_cmp 12 s t (short_of s v.simplex) (short_of t w.simplex) x y

-- ---- where two words differ, and where they do not
apart : (x y : ℕ) (o : Ordering) → (x ≡ y → ⊥) → nat_cmp x y ≡ ordering_then (nat_cmp x y) o
apart x y o n = by_first x y x y o (λ l. l) (λ l. l) (λ e. absurd (n e))

alike : (x y : ℕ) (o : Ordering) → x ≡ y → o ≡ ordering_then (nat_cmp x y) o
alike x y o e = ap (λ r. ordering_then r o) (sym (same x y e))

module _ (s t : List ℕ) (a b c d p q r u : ℕ) (v : AreWordsOf s a b c d) (w : AreWordsOf t p q r u) where
  pub by_fourth : a ≡ p → b ≡ q → c ≡ r → nat_cmp d u ≡ slice_cmp nat_cmp s t
  by_fourth e f g = alike c r _ g ∙ alike b q _ f ∙ alike a p _ e ∙ words_cmp s t a b c d p q r u v w

  pub by_third : a ≡ p → b ≡ q → (c ≡ r → ⊥) → nat_cmp c r ≡ slice_cmp nat_cmp s t
  by_third e f n = apart c r (nat_cmp d u) n ∙ alike b q _ f ∙ alike a p _ e ∙ words_cmp s t a b c d p q r u v w

  pub by_second : a ≡ p → (b ≡ q → ⊥) → nat_cmp b q ≡ slice_cmp nat_cmp s t
  by_second e n = apart b q (ordering_then (nat_cmp c r) (nat_cmp d u)) n ∙ alike a p _ e ∙ words_cmp s t a b c d p q r u v w

  pub by_first_word : (a ≡ p → ⊥) → nat_cmp a p ≡ slice_cmp nat_cmp s t
  by_first_word n = apart a p (ordering_then (nat_cmp b q) (ordering_then (nat_cmp c r) (nat_cmp d u))) n ∙ words_cmp s t a b c d p q r u v w

  -- where three words are equal, the last decides
  pub equal_last : a ≡ p → b ≡ q → c ≡ r → nat_eq d u ≡ pointwise nat_eq s t
  equal_last e f g =
      agree (nat_eq d u) (pointwise nat_eq s t)
      (λ h. (pointwise_decides unsigned_Decides s t).1 (sym (unpacked_is s a b c d v) ∙ (λ i. unpacked (e i) (f i) (g i) (equal_at d u h i)) ∙ unpacked_is t p q r u w))
      (λ h. equal_from d u (v.last ∙ ap (λ l. word l 3 + length l) ((pointwise_decides unsigned_Decides s t).0 h) ∙ sym w.last))
