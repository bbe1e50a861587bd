use Rattle.std.proofs.Common.{map, take}
use Rattle.simplex.specs.Simplex.{without}
use Rattle.betti_tables.specs.Boundary.{IsWritten}
use Rattle.betti_tables.proofs.boundary.write_column.Given as goal

abbrev pub invariant-loop-label : goal.invariant-loop-label
invariant-loop-label l = IsWritten l.rows (map (without l.s) (take l.label-index l.label-items)) l.col l.initial.matrix l.matrix
