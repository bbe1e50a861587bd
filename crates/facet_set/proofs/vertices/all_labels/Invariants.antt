use Rattle.std.proofs.Common.{◌≡◌, take}
use Rattle.std.specs.List.{flat_map}
use Rattle.facet_set.proofs.vertices.all_labels.Given as goal

abbrev pub invariant-loop-s : goal.invariant-loop-s
invariant-loop-s l = l.labels.items ≡ flat_map (λ s. s) (take l.s-index l.simplices)
