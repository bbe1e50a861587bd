use Rattle.std.proofs.Common.{◌≡◌, map, take}
use Rattle.facet_set.specs.Maps.{becomes}
use Rattle.relabelling.proofs.extending.with_their_images.Given as goal

abbrev pub invariant-loop-label : goal.invariant-loop-label
invariant-loop-label l = l.list.items ≡ map (λ a. (a, becomes l.images a)) (take l.label-index l.labels)
