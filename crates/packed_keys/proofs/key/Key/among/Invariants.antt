use Rattle.std.proofs.Common.{◌≡◌, ◌++◌, drop}
use Rattle.simplex.specs.Simplex.{subset_at}
use Rattle.packed_keys.proofs.key.Key.among.Given as goal

abbrev pub invariant-loop-label : goal.invariant-loop-label
invariant-loop-label l = l.key ++ subset_at (drop l.label-index l.labels) l.bits ≡ subset_at l.labels l.mask
