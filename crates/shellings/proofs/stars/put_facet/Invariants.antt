use Rattle.std.proofs.Common.{take}
use Rattle.shellings.specs.Stars.{IsPut}
use Rattle.shellings.proofs.stars.put_facet.Given as goal

abbrev pub invariant-loop-label : goal.invariant-loop-label
invariant-loop-label l = IsPut l.labels l.place (take l.label-index l.f) l.initial.sets l.sets
