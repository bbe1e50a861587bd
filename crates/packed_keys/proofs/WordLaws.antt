-- What is packed comes out again.
use Rattle.std.proofs.Common.{◌≡◌, ℕ, zero, suc, ◌<◌, ◌≤◌, ◌+◌, ◌*◌, ◌/◌, ◌%◌, ◌^◌, true, List, [], ◌∷◌, ◌++◌, length, take, get_or, refl, sym, ap, ◌∙◌, subst, arith}
use Rattle.std.specs.Bool.{IsTrue}
use Rattle.std.specs.List.{list_all}
use Rattle.std.proofs.lemmas.Bool.Decides.{nat_tests}
use Rattle.simplex.specs.Simplex.{is_label, is_simplex}
use Rattle.simplex.proofs.InOrderLaws.{and_left, and_right}
use Rattle.simplex.proofs.Filled.{short_of, labels_of}
use Rattle.packed_keys.specs.Words.{word_of, word, labels_in, unpacked, AreWordsOf}

-- ---- a label has 20 bits
low : (a : ℕ) → is_label a ≡ true → a < 2 ^ 20
low a h = grind (arith, nat_tests)

pub label_low : (s : List ℕ) (k : ℕ) → list_all is_label s ≡ true → get_or s k 0 < 2 ^ 20
label_low [] k h = omega arith
label_low (a ∷ s) zero h = low a (and_left _ _ h)
label_low (a ∷ s) (suc k) h = label_low s k (and_right (is_label a) _ h)

-- ---- a word and its labels
pub labels_back : (x y z r : ℕ) → x < 2 ^ 20 → y < 2 ^ 20 → z < 2 ^ 20 → r < 2 ^ 4 → labels_in (word_of x y z + r) ≡ x ∷ y ∷ z ∷ []
labels_back x y z r h k l m =
    let first : (word_of x y z + r) / 2 ^ 44 % 2 ^ 20 ≡ x = omega arith in
    let second : (word_of x y z + r) / 2 ^ 24 % 2 ^ 20 ≡ y = omega arith in
    let third : (word_of x y z + r) / 2 ^ 4 % 2 ^ 20 ≡ z = omega arith in
    λ i. first i ∷ second i ∷ third i ∷ []

pub count_back : (x y z r : ℕ) → r < 2 ^ 4 → (word_of x y z + r) % 2 ^ 4 ≡ r
count_back x y z r h = omega arith

-- ---- the labels, and zeros up to a length
abbrev pub padded : ℕ → List ℕ → List ℕ
padded zero s = []
padded (suc n) [] = 0 ∷ padded n []
padded (suc n) (a ∷ s) = a ∷ padded n s

-- the same, read by places from k on
abbrev pub row : List ℕ → ℕ → ℕ → List ℕ
row s k zero = []
row s k (suc n) = get_or s k 0 ∷ row s (k + 1) n

row_none : (k n : ℕ) → row [] k n ≡ padded n []
row_none k zero = refl
row_none k (suc n) = ap (λ l. 0 ∷ l) (row_none (k + 1) n)

row_next : (a : ℕ) (s : List ℕ) (k n : ℕ) → row (a ∷ s) (k + 1) n ≡ row s k n
row_next a s k zero = refl
row_next a s k (suc n) = let e : get_or (a ∷ s) (k + 1) 0 ≡ get_or s k 0 = grind (arith) in λ i. e i ∷ row_next a s (k + 1) n i

pub row_is : (s : List ℕ) (n : ℕ) → row s 0 n ≡ padded n s
row_is [] n = row_none 0 n
row_is (a ∷ s) zero = refl
row_is (a ∷ s) (suc n) = ap (λ l. a ∷ l) (row_next a s 0 n ∙ row_is s n)

pub front_back : (s : List ℕ) (n : ℕ) → length s ≤ n → take (length s) (padded n s) ≡ s
front_back [] n h = refl
front_back (a ∷ s) zero h = absurd (omega (arith, h))
front_back (a ∷ s) (suc n) h = ap (λ l. a ∷ l) (front_back s n (omega (arith, h)))

-- ---- four words and their labels
word_back : (s : List ℕ) (k r : ℕ) → list_all is_label s ≡ true → r < 2 ^ 4 → labels_in (word s k + r) ≡ get_or s (3 * k) 0 ∷ get_or s (3 * k + 1) 0 ∷ get_or s (3 * k + 2) 0 ∷ []
word_back s k r h l = labels_back _ _ _ r (label_low s (3 * k) h) (label_low s (3 * k + 1) h) (label_low s (3 * k + 2) h) l

word_alone : (s : List ℕ) (k : ℕ) → list_all is_label s ≡ true → labels_in (word s k) ≡ get_or s (3 * k) 0 ∷ get_or s (3 * k + 1) 0 ∷ get_or s (3 * k + 2) 0 ∷ []
word_alone s k h = let e : word s k ≡ word s k + 0 = omega arith in ap labels_in e ∙ word_back s k 0 h (omega arith)

pub unpacked_word : (s : List ℕ) → IsTrue (is_simplex s) → unpacked (word s 0) (word s 1) (word s 2) (word s 3 + length s) ≡ s
unpacked_word s h =
    let up = labels_of s h in
    let few : length s < 2 ^ 4 = omega (arith, short_of s h) in
    let count : (word s 3 + length s) % 2 ^ 4 ≡ length s = count_back _ _ _ (length s) few in
    let all : labels_in (word s 0) ++ labels_in (word s 1) ++ labels_in (word s 2) ++ labels_in (word s 3 + length s) ≡ row s 0 12 =
    λ i. word_alone s 0 up i ++ word_alone s 1 up i ++ word_alone s 2 up i ++ word_back s 3 (length s) up few i in
    (λ i. take (count i) (all i)) ∙ ap (take (length s)) (row_is s 12) ∙ front_back s 12 (short_of s h)

pub unpacked_is : (s : List ℕ) (a b c d : ℕ) → AreWordsOf s a b c d → unpacked a b c d ≡ s
unpacked_is s a b c d w = (λ i. unpacked (w.first i) (w.second i) (w.third i) (w.last i)) ∙ unpacked_word s w.simplex

pub packed : (s : List ℕ) (a b c d : ℕ) → AreWordsOf s a b c d → AreWordsOf (unpacked a b c d) a b c d
packed s a b c d w = subst (λ t. AreWordsOf t a b c d) (sym (unpacked_is s a b c d w)) w

-- the words of a key, told by its labels
pub seen : (s : List ℕ) (a b c d : ℕ) → AreWordsOf (unpacked a b c d) a b c d → unpacked a b c d ≡ s → AreWordsOf s a b c d
seen s a b c d w e = subst (λ t. AreWordsOf t a b c d) e w

-- their number
pub count_of : (s : List ℕ) (a b c d : ℕ) → AreWordsOf s a b c d → d % 16 ≡ length s
count_of s a b c d w = ap (λ n. n % 16) w.last ∙ count_back _ _ _ (length s) (omega (arith, short_of s w.simplex))
