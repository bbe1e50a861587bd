-- The set that a list of words stands for, 64 places a word.
use Rattle.std.specs.Prelude.{ℕ, ◌*◌, ◌/◌, ◌%◌, ◌==◌, Bool, List, length, slice_index_or}
use Rattle.std.specs.Int.{bit_at}
use Rattle.std.specs.List.{filter, range_with_len}

-- whether the bit of the place is 1
unfoldable pub is_one : List ℕ → ℕ → Bool
is_one words place = bit_at (slice_index_or words (place / 64) 0) (place % 64) == 1

-- the places whose bits are 1, in increasing order
unfoldable pub ones : List ℕ → List ℕ
ones words = filter (is_one words) (range_with_len 0 (64 * length words))
