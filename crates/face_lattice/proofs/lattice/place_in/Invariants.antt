use Rattle.std.proofs.Common.{◌≡◌, take}
use Rattle.face_lattice.specs.Lattice.{all_but}
use Rattle.face_lattice.proofs.lattice.place_in.Given as goal

abbrev pub invariant-loop-k : goal.invariant-loop-k
invariant-loop-k l = all_but l.f (take l.k l.list) ≡ take l.k l.list
