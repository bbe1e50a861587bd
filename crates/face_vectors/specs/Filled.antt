-- How integers lie in the places of a row.
use Rattle.std.specs.Prelude.{◌≡◌, ◌≤◌, ◌-◌, ℕ, ℤ, pos, List, drop, replicate}

-- the first places are taken, and the rest hold 0
pub record IsFilled (at : List ℤ) (len : ℕ) : Type 0 where
  pub short : len ≤ 13
  pub rest : drop len at ≡ replicate (13 - len) (pos 0)
