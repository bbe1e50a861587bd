use Rattle.std.proofs.Common.{vec_len}
use Rattle.gf2_rank.proofs.ColumnSteps.{IsReduced}
use Rattle.gf2_rank.proofs.matrix.rank_of.Given as goal

abbrev pub invariant-loop-last : goal.invariant-loop-last
invariant-loop-last l = IsReduced l.len l.initial.columns.items l.columns.items l.rank

abbrev pub decreases-loop-last : goal.decreases-loop-last
decreases-loop-last l = vec_len l.columns
