use Rattle.std.proofs.Common.{◌≡◌, ◌<◌, length}
use Rattle.local_parts.specs.Forest.{root}
use Rattle.local_parts.proofs.forest.root_of.Given as goal

abbrev pub invariant-loop-at : goal.invariant-loop-at
invariant-loop-at l = record { within : l.at < length l.parents; same : root l.parents l.at ≡ root l.parents l.i }

abbrev pub decreases-loop-at : goal.decreases-loop-at
decreases-loop-at l = l.at
