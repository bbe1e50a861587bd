-- How columns of words stand for sets of rows.
use Rattle.std.specs.Prelude.{◌≡◌, ◌≤◌, ◌+◌, ◌/◌, ℕ, List, map, length, All}
use Rattle.gf2_rank.specs.declared.column.Column.{Column}
use Rattle.gf2_rank.specs.Matrix.{side_limit}
use Rattle.gf2_rank.specs.Ones.{ones}

-- the sets of the columns
abbrev pub sets : List Column → List (List ℕ)
sets cs = map (λ c. ones c.words.items) cs

-- columns of just the words that so many rows need
pub record AreColumns (rows : ℕ) (columns : List Column) : Type 0 where
  pub short : rows ≤ side_limit
  pub whole : All (λ c. length c.words.items ≡ (rows + 63) / 64) columns
