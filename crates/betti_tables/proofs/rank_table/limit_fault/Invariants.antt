use Rattle.std.proofs.Common.{◌≡◌}
use Rattle.betti_tables.specs.Limits.{limit_fault}
use Rattle.betti_tables.proofs.LimitLaws.{fault_from}
use Rattle.betti_tables.proofs.rank_table.limit_fault.Given as goal

abbrev pub invariant-loop-k : goal.invariant-loop-k
invariant-loop-k l = fault_from l.l.facets l.k l.k-end ≡ limit_fault l.l.facets
