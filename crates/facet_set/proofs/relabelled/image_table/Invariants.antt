use Rattle.std.proofs.Common.{◌≡◌, ◌≤◌, ℕ, drop, length}
use Rattle.facet_set.specs.Maps.{image_of, becomes}
use Rattle.facet_set.proofs.relabelled.image_table.Given as goal

abbrev pub invariant-loop-rest : goal.invariant-loop-rest
invariant-loop-rest l = record { within : l.rest ≤ length l.pairs; same : (a : ℕ) → becomes l.images a ≡ image_of (drop l.rest l.pairs) a }

abbrev pub decreases-loop-rest : goal.decreases-loop-rest
decreases-loop-rest l = l.rest
