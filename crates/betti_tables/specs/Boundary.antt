-- How the matrix of the boundaries is filled, column by column.
use Rattle.std.specs.Prelude.{◌≡◌, ◌≢◌, ℕ, List}
use Rattle.std.specs.Bool.{IsTrue}
use Rattle.simplex.specs.InOrder.{is_increasing}
use Rattle.simplex.specs.Members.{In}
use Rattle.simplex.specs.Simplex.{simplex_cmp}
use Rattle.gf2_rank.specs.Laws.{IsNamed}
use Rattle.gf2_rank.specs.Matrix.{Matrix, cols, column as rows_of}
use Rattle.betti_tables.specs.Ranks.{column}

-- the members of the column of s are among the rows, which are in increasing order
pub record HasRows (rows : List (List ℕ)) (s : List ℕ) : Type 0 where
  pub rising : IsTrue (is_increasing simplex_cmp rows)
  pub found : (t : List ℕ) → In t (column s) → In t rows

-- the one column is the set of the places of these rows, and all else is as before
pub record IsWritten (rows xs : List (List ℕ)) (col : ℕ) (before after : Matrix) : Type 0 where
  pub named : IsNamed rows (rows_of after col) xs
  pub others : (k : ℕ) → k ≢ col → rows_of after k ≡ rows_of before k
  pub rows_same : after.rows ≡ before.rows
  pub cols_same : cols after ≡ cols before
