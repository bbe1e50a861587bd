use Rattle.std.proofs.Common.{◌≡◌, [], take}
use Rattle.face_lattice.proofs.lattice.of_facets.Given as goal

abbrev pub invariant-loop-f : goal.invariant-loop-f
invariant-loop-f g l = record { facets : l.lattice.facets ≡ take l.f-index l.facets; room : l.lattice.room ≡ [] }
