-- Sets of places, as the bits of words, 64 a word.
use Rattle.std.specs.Prelude.{ℕ, ◌/◌, ◌%◌, ◌==◌, Bool, List, slice_index_or}
use Rattle.std.specs.Int.{bit_at}

-- whether the place is in the set
unfoldable pub is_one : List ℕ → ℕ → Bool
is_one words place = bit_at (slice_index_or words (place / 64) 0) (place % 64) == 1
