use Rattle.std.proofs.Common.{◌≡◌, drop}
use Rattle.simplex.specs.FirstFailing.{first_failing}
use Rattle.constructions.specs.Gluing.{near_tests}
use Rattle.constructions.proofs.gluing.near_fault.Given as goal

abbrev pub invariant-loop-pair : goal.invariant-loop-pair
invariant-loop-pair l = first_failing (near_tests l.facets (drop l.pair-index l.pairs)) ≡ first_failing (near_tests l.facets l.pairs)
