-- How numbers lie in twelve places.
use Rattle.std.specs.Prelude.{◌≡◌, ◌≤◌, ◌-◌, ℕ, List, drop, replicate}

-- the first places are taken, and the rest hold 0
pub record IsFilled (at : List ℕ) (len : ℕ) : Type 0 where
  pub short : len ≤ 12
  pub rest : drop len at ≡ replicate (12 - len) 0
