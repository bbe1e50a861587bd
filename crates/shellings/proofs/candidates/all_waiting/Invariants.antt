use Rattle.std.proofs.Common.{◌≡◌, map, take}
use Rattle.shellings.proofs.GreedyLaws.{starting}
use Rattle.shellings.proofs.candidates.all_waiting.Given as goal

abbrev pub invariant-loop-f : goal.invariant-loop-f
invariant-loop-f l = l.candidates.items ≡ map starting (take l.f-index l.facets)
