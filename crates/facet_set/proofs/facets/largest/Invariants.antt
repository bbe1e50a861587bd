use Rattle.std.proofs.Common.{◌≡◌, ◌≤◌, max, drop}
use Rattle.facet_set.specs.Numbers.{size}
use Rattle.facet_set.proofs.facets.largest.Given as goal

abbrev pub invariant-loop-s : goal.invariant-loop-s
invariant-loop-s l = record { value : max l.largest (size (drop l.s-index l.simplices)) ≡ size l.simplices; bound : l.largest ≤ 12 }
