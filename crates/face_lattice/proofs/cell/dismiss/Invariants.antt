use Rattle.std.proofs.Common.{◌≡◌, length}
use Rattle.simplex.specs.Simplex.{without}
use Rattle.face_lattice.proofs.cell.dismiss.Given as goal

abbrev pub invariant-loop-k : goal.invariant-loop-k
invariant-loop-k l = without l.askers.items l.asker ≡ without l.initial.askers.items l.asker

abbrev pub decreases-loop-k : goal.decreases-loop-k
decreases-loop-k l = length l.askers.items
