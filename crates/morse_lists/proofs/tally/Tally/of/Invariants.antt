use Rattle.std.proofs.Common.{◌≡◌, map}
use Rattle.std.specs.List.{range_with_len}
use Rattle.morse_lists.specs.Morse.{critical_count}
use Rattle.morse_lists.specs.Tally.{numbers}
use Rattle.morse_lists.proofs.tally.Tally.of.Given as goal

abbrev pub invariant-loop-k : goal.invariant-loop-k
invariant-loop-k l = record {
  value : numbers l.tally ≡ map (critical_count l.steps) (range_with_len 0 l.k);
  len : l.tally.len ≡ l.k;
}
