use Rattle.std.proofs.Common.{◌≡◌, drop}
use Rattle.facet_set.specs.Flips.{least_missing}
use Rattle.facet_set.proofs.vertices.least_missing.Given as goal

abbrev pub invariant-loop-label : goal.invariant-loop-label
invariant-loop-label l = least_missing l.missing (drop l.label-index l.labels) ≡ least_missing 1 l.labels
