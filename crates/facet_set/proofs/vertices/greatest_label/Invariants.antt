use Rattle.std.proofs.Common.{◌≡◌, max, take}
use Rattle.std.specs.List.{flat_map, fold}
use Rattle.facet_set.proofs.vertices.greatest_label.Given as goal

abbrev pub invariant-loop-s : goal.invariant-loop-s
invariant-loop-s l = l.greatest ≡ fold max 0 (flat_map (λ s. s) (take l.s-index l.simplices))
