-- The numbers in a `Tally`.
use Rattle.std.specs.Prelude.{ℕ, List, take}
use Rattle.morse_lists.specs.declared.tally.Tally.{Tally}

abbrev pub numbers : Tally → List ℕ
numbers t = take t.len t.at
