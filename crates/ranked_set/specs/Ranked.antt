-- What contracts see of a ranked set, and how its parts keep it.
use Rattle.std.specs.Prelude.{◌≡◌, ℕ, ◌+◌, ◌-◌, ◌^◌, ◌≤◌, true, List, length, min}
use Rattle.ranked_set.specs.Blocks.{joined, are_short, IsRanked}

-- the members in increasing order, the number of insertions that surely take no memory, and the count of changes
pub record Ranked : Type 0 where
  pub members : List (List ℕ)
  pub spare : ℕ
  pub changes : ℕ

-- a count that has risen by x, and stands still at the end of 64 bits
abbrev pub risen : ℕ → ℕ → ℕ
risen n x = min (n + x) (2 ^ 64 - 1)

-- the blocks keep the list, and their own list has room for the blocks of the pool
pub record IsKept (blocks : List (List (List ℕ))) (count capacity pool len : ℕ) : Type 0 where
  pub ranked : IsRanked blocks
  pub short : are_short blocks ≡ true
  pub len_is : len ≡ length (joined blocks)
  pub room : count + pool ≤ capacity
  pub few : count + pool ≤ 2 ^ 56
  pub start : count ≡ 0 → pool ≡ 0
