-- Matrices over the field of two elements.
use Rattle.std.specs.Prelude.{ℕ, List, [], length, replicate, slice_set, slice_index_or, Bool}
use Rattle.std.specs.Ordering.{nat_cmp}
use Rattle.simplex.specs.InOrder.{is_member, put}

-- the number of rows, and column by column the set of the rows where it is 1
pub record Matrix : Type 0 where
  pub rows : ℕ
  pub columns : List (List ℕ)

-- the number of columns
abbrev pub cols : Matrix → ℕ
cols m = length m.columns

-- the matrix with no 1
abbrev pub zero_matrix : ℕ → ℕ → Matrix
zero_matrix rows cols = record { rows = rows; columns = replicate cols [] }

-- the set of a column
abbrev pub column : Matrix → ℕ → List ℕ
column m col = slice_index_or m.columns col []

-- whether the entry is 1
abbrev pub entry : Matrix → ℕ → ℕ → Bool
entry m row col = is_member nat_cmp row (column m col)

-- the matrix with a 1 at this entry, and else as it is
abbrev pub with_one : Matrix → ℕ → ℕ → Matrix
with_one m row col = record { rows = m.rows; columns = slice_set m.columns col (put nat_cmp row (column m col)) }

-- the greatest number of rows, and of columns
abbrev pub side_limit : ℕ
side_limit = 16384
