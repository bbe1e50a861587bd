use Rattle.std.proofs.Common.{◌≡◌, ◌++◌, drop}
use Rattle.simplex.specs.Simplex.{subset_at}
use Rattle.simplex.proofs.simplex.Simplex.subset.Given as goal

abbrev pub invariant-loop-label : goal.invariant-loop-label
invariant-loop-label l = l.subset ++ subset_at (drop l.label-index l.self) l.bits ≡ subset_at l.self l.mask
