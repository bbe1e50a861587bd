use Rattle.std.proofs.Common.{◌≡◌, ℕ, ◌+◌, ◌-◌, ◌<◌, ◌≤◌, true, false, [], length, get_or}
use Rattle.ranked_set.specs.Blocks.{are_below, IsRanked}
use Rattle.ranked_set.proofs.blocks.block_for.Given as goal

abbrev pub invariant-loop-low : goal.invariant-loop-low
invariant-loop-low l = record {
  order : l.low ≤ l.high;
  within : l.high < length l.blocks;
  ranked : IsRanked l.blocks;
  before : (j : ℕ) → j + 1 ≡ l.low → are_below l.s (get_or l.blocks j []) ≡ true;
  here : l.high + 1 < length l.blocks → are_below l.s (get_or l.blocks l.high []) ≡ false;
}

abbrev pub decreases-loop-low : goal.decreases-loop-low
decreases-loop-low l = l.high - l.low
