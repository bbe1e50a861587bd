-- A flip: the set that goes out and the set that comes in.
use Rattle.std.specs.Prelude.{ℕ, ◌-◌, length}
use Rattle.simplex.specs.declared.flip.Flip.{Flip}

-- the number of labels of the set that comes in, less one
abbrev pub class : Flip → ℕ
class m = length m.b - 1

-- the flip back
abbrev pub inverse : Flip → Flip
inverse m = record { a = m.b; b = m.a }
