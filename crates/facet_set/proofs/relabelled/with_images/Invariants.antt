use Rattle.std.proofs.Common.{◌≡◌, map, take}
use Rattle.simplex.specs.SimplexFault.{set}
use Rattle.facet_set.specs.Maps.{becomes}
use Rattle.facet_set.proofs.relabelled.with_images.Given as goal

abbrev pub invariant-loop-label : goal.invariant-loop-label
invariant-loop-label l = l.all ≡ set (map (becomes l.images) (take l.label-index l.s))
