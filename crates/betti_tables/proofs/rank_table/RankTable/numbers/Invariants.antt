use Rattle.std.proofs.Common.{◌≡◌, map}
use Rattle.std.specs.Prelude.{pos}
use Rattle.std.specs.List.{range_with_len}
use Rattle.betti_tables.specs.Betti.{numbers}
use Rattle.betti_tables.specs.Ranks.{betti_number}
use Rattle.betti_tables.proofs.rank_table.RankTable.numbers.Given as goal

abbrev pub invariant-loop-k : goal.invariant-loop-k
invariant-loop-k l = record { value : map pos (numbers l.betti) ≡ map (betti_number l.l.facets) (range_with_len 0 l.k); len : l.betti.len ≡ l.k }
