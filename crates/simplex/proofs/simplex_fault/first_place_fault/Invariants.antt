use Rattle.std.proofs.Common.{◌≡◌, [], take, drop}
use Rattle.simplex.specs.FirstFailing.{first_failing}
use Rattle.simplex.specs.SimplexFault.{place_tests}
use Rattle.simplex.proofs.simplex_fault.first_place_fault.Given as goal

abbrev pub invariant-loop-at : goal.invariant-loop-at
invariant-loop-at l =
    first_failing (place_tests l.at (take l.at l.labels) (drop l.at l.labels)) ≡ first_failing (place_tests 0 [] l.labels)
