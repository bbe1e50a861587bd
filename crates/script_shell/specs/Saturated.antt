-- Numbers of a script as machine numbers.
use Rattle.std.specs.Prelude.{ℕ, min}

-- the number, or the greatest u32, which is no label, where it is above it
abbrev pub saturated : ℕ → ℕ
saturated n = min n 4294967295
