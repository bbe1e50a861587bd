use Rattle.std.proofs.Common.{◌≡◌, take}
use Rattle.simplex.specs.Simplex.{without}
use Rattle.face_lattice.proofs.cell.place_of_asker.Given as goal

abbrev pub invariant-loop-k : goal.invariant-loop-k
invariant-loop-k l = without (take l.k l.askers) l.asker ≡ take l.k l.askers
