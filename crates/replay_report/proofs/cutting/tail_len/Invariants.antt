use Rattle.std.proofs.Common.{◌≤◌, ◌-◌, length}
use Rattle.replay_report.proofs.CuttingLaws.{ReachesTo}
use Rattle.replay_report.proofs.cutting.tail_len.Given as goal

abbrev pub invariant-loop-at : goal.invariant-loop-at
invariant-loop-at l = record {
  within : l.at ≤ length l.bytes;
  so_far : ReachesTo l.bytes l.at;
}

abbrev pub decreases-loop-at : goal.decreases-loop-at
decreases-loop-at l = length l.bytes - l.at
