use Rattle.std.proofs.Common.{◌≡◌, take, length}
use Rattle.packed_keys.proofs.key.Key.simplex.Given as goal

abbrev pub invariant-loop-k : goal.invariant-loop-k
invariant-loop-k l = (length l.labels ≡ 12) × (take l.k l.labels ≡ take l.k l.self)
