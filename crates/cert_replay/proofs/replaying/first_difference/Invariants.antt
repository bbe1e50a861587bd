use Rattle.std.proofs.Common.{◌≡◌, ◌+◌, ◌-◌, ◌≤◌, drop, length}
use Rattle.flip_certificate.specs.Valid.{first_difference}
use Rattle.cert_replay.proofs.replaying.first_difference.Given as goal

abbrev pub invariant-loop-at : goal.invariant-loop-at
invariant-loop-at l = record { within : l.at ≤ length l.xs; same : first_difference l.xs l.ys ≡ l.at + first_difference (drop l.at l.xs) (drop l.at l.ys) }

abbrev pub decreases-loop-at : goal.decreases-loop-at
decreases-loop-at l = length l.xs - l.at
