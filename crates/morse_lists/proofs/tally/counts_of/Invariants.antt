use Rattle.std.proofs.Common.{◌≡◌, ℕ, ◌<◌, get_or, take, length}
use Rattle.morse_lists.specs.Morse.{critical_count}
use Rattle.morse_lists.proofs.tally.counts_of.Given as goal

abbrev pub invariant-loop-step : goal.invariant-loop-step
invariant-loop-step l = record {
  len : length l.counts ≡ 12;
  value : (k : ℕ) → k < 12 → get_or l.counts k 0 ≡ critical_count (take l.step-index l.steps) k;
}
