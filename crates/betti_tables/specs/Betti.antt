-- The numbers in a `Betti`.
use Rattle.std.specs.Prelude.{ℕ, List, take}
use Rattle.betti_tables.specs.declared.betti.Betti.{Betti}

abbrev pub numbers : Betti → List ℕ
numbers b = take b.len b.at
