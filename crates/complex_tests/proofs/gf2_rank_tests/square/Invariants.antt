use Rattle.std.proofs.Common.{◌≡◌}
use Rattle.gf2_rank.specs.Matrix.{cols}
use Rattle.complex_tests.proofs.gf2_rank_tests.square.Given as goal

abbrev pub invariant-loop-place : goal.invariant-loop-place
invariant-loop-place l = (l.matrix.rows ≡ l.side) × (cols l.matrix ≡ l.side)
