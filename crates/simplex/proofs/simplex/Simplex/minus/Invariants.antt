use Rattle.std.proofs.Common.{◌≡◌, ◌++◌, drop}
use Rattle.simplex.specs.Simplex.{minus}
use Rattle.simplex.proofs.simplex.Simplex.minus.Given as goal

abbrev pub invariant-loop-label : goal.invariant-loop-label
invariant-loop-label l = l.rest ++ minus (drop l.label-index l.self) l.other ≡ minus l.self l.other
