-- Words that are added to others, one after another.
use Rattle.std.specs.Prelude.{◌≡◌, ℕ, ◌<◌, ◌≤◌, List, length, slice_index_or, bit_xor}

-- c is the sum of a and b at the first n words, and a from there on
pub record IsAdded (a b c : List ℕ) (n : ℕ) : Type 0 where
  pub done : (k : ℕ) → k < n → slice_index_or c k 0 ≡ bit_xor (slice_index_or a k 0) (slice_index_or b k 0)
  pub left : (k : ℕ) → n ≤ k → slice_index_or c k 0 ≡ slice_index_or a k 0
  pub len : length c ≡ length a
