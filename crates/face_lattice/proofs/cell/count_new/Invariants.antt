use Rattle.std.proofs.Common.{◌+◌, ◌≤◌, length, take}
use Rattle.simplex.specs.Simplex.{minus, union}
use Rattle.face_lattice.proofs.cell.count_new.Given as goal

abbrev pub invariant-loop-label : goal.invariant-loop-label
invariant-loop-label l = record {
  room : length (union l.up (minus (take l.label-index l.labels) l.s)) ≤ length l.up + l.n;
  few : l.n ≤ l.label-index;
}
