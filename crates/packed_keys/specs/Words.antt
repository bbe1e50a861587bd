-- A simplex in four words: three labels of 20 bits in each, the first on top, above four bits that are 0 but for the number of labels in the last word.
use Rattle.std.specs.Prelude.{◌≡◌, ℕ, ◌+◌, ◌*◌, ◌/◌, ◌%◌, ◌^◌, List, [], ◌∷◌, ◌++◌, length, take, slice_index, IsTrue}
use Rattle.simplex.specs.Simplex.{is_simplex}

-- the word of three labels
abbrev pub word_of : ℕ → ℕ → ℕ → ℕ
word_of x y z = x * 2 ^ 44 + y * 2 ^ 24 + z * 2 ^ 4

-- the k-th word of the labels, of which those that are missing are 0
abbrev pub word : List ℕ → ℕ → ℕ
word s k = word_of (slice_index s (3 * k)) (slice_index s (3 * k + 1)) (slice_index s (3 * k + 2))

-- the three labels of a word
abbrev pub labels_in : ℕ → List ℕ
labels_in w = w / 2 ^ 44 % 2 ^ 20 ∷ w / 2 ^ 24 % 2 ^ 20 ∷ w / 2 ^ 4 % 2 ^ 20 ∷ []

-- the labels of four words
abbrev pub unpacked : ℕ → ℕ → ℕ → ℕ → List ℕ
unpacked a b c d = take (d % 2 ^ 4) (labels_in a ++ labels_in b ++ labels_in c ++ labels_in d)

-- the four words of a simplex
pub record AreWordsOf (s : List ℕ) (a b c d : ℕ) : Type 0 where
  pub simplex : IsTrue (is_simplex s)
  pub first : a ≡ word s 0
  pub second : b ≡ word s 1
  pub third : c ≡ word s 2
  pub last : d ≡ word s 3 + length s
