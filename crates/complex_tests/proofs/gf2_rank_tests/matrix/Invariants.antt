use Rattle.std.proofs.Common.{◌≡◌}
use Rattle.gf2_rank.specs.Matrix.{cols}
use Rattle.complex_tests.proofs.gf2_rank_tests.matrix.Given as goal

abbrev pub invariant-loop-row : goal.invariant-loop-row
invariant-loop-row l = (l.matrix.rows ≡ l.rows) × (cols l.matrix ≡ l.cols)
