use Rattle.std.proofs.Common.{◌≡◌, false, take}
use Rattle.simplex.specs.Simplex.{has}
use Rattle.packed_keys.proofs.key.Key.has.Given as goal

abbrev pub invariant-loop-k : goal.invariant-loop-k
invariant-loop-k l = has (take l.k l.self) l.label ≡ false
