use Rattle.std.specs.Prelude.{◌≡◌, ℕ, ◌+◌, ◌&&◌, length, nat_le, nat_lt, None, if◌then◌else◌}
use Rattle.betti_tables.specs.Table.{kept}
use Rattle.betti_tables.proofs.rank_table.RankTable.keep_below.Given as goal

abbrev pub invariant-loop-k : goal.invariant-loop-k
invariant-loop-k l = record {
  table : (j : ℕ) → kept l.self-inside.ranks j ≡ (if nat_le l.size (j + 1) && nat_lt j l.k then None else kept l.initial.self-inside.ranks j);
  places : length l.self-inside.ranks ≡ 12;
}
