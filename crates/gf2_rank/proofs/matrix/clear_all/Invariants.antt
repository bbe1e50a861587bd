use Rattle.std.proofs.Common.{length}
use Rattle.gf2_rank.specs.Ones.{ones}
use Rattle.gf2_rank.proofs.ColumnSteps.{IsCleared}
use Rattle.gf2_rank.proofs.matrix.clear_all.Given as goal

abbrev pub invariant-loop-column : goal.invariant-loop-column
invariant-loop-column l = IsCleared l.row (length l.pivot.words.items) (ones l.pivot.words.items) l.initial.columns l.columns l.column-index
