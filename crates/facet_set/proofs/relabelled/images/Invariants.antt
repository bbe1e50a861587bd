use Rattle.std.proofs.Common.{◌≡◌, map, take}
use Rattle.facet_set.specs.Maps.{relabelled}
use Rattle.facet_set.proofs.relabelled.images.Given as goal

abbrev pub invariant-loop-s : goal.invariant-loop-s
invariant-loop-s l = l.list.items ≡ map (relabelled l.pairs) (take l.s-index l.simplices)
