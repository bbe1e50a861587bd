use Rattle.std.proofs.Common.{◌≤◌, max}
use Rattle.betti_tables.specs.Progress.{IsKeptBelow}
use Rattle.betti_tables.proofs.rank_table.RankTable.keep_all.Given as goal

abbrev pub invariant-loop-k : goal.invariant-loop-k
invariant-loop-k g l = record { filled : IsKeptBelow l.l.facets l.initial.self l.self l.initial.steps l.steps l.k; end : l.k ≤ max 1 l.k-end }
