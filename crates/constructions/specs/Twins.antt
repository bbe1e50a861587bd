-- What the code's tests come to.
use Rattle.std.specs.Prelude.{ℕ, Bool, ◌&&◌, List}
use Rattle.std.specs.List.{list_any}
use Rattle.simplex.specs.Simplex.{has}

-- whether some simplex has the label and one that passes the test
abbrev pub has_beside : (ℕ → Bool) → ℕ → List ℕ → Bool
has_beside test b s = has s b && list_any test s
