use Rattle.std.proofs.Common.{◌≡◌, ◌+◌, take}
use Rattle.std.specs.List.{range_with_len, zip}
use Rattle.constructions.proofs.relabelling.renumbering.Given as goal

abbrev pub invariant-loop-i : goal.invariant-loop-i
invariant-loop-i l = l.pairs.items ≡ zip (take l.i l.labels) (range_with_len (l.greatest + 1) l.i)
