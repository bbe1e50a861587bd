use Rattle.std.proofs.Common.{◌≡◌, take}
use Rattle.std.specs.List.{flat_map}
use Rattle.face_lattice.proofs.labels.all_labels.Given as goal

abbrev pub invariant-loop-s : goal.invariant-loop-s
invariant-loop-s l = l.labels.items ≡ flat_map (λ s. s) (take l.s-index l.list)
