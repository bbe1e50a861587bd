use Rattle.gf2_rank.proofs.ColumnSteps.{IsZeros}
use Rattle.gf2_rank.proofs.matrix.BitMatrix.new.Given as goal

abbrev pub invariant-loop : goal.invariant-loop
invariant-loop l = IsZeros l.len l.counter l.columns.items
