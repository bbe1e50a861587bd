use Rattle.betti_tables.proofs.BuiltLaws.{IsBuilt}
use Rattle.betti_tables.proofs.boundary.boundaries.Given as goal

abbrev pub invariant-loop-col : goal.invariant-loop-col
invariant-loop-col l = IsBuilt l.rows l.simplices l.col l.matrix
