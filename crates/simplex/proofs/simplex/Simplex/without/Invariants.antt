use Rattle.std.proofs.Common.{◌≡◌, ◌++◌, drop}
use Rattle.simplex.specs.Simplex.{without}
use Rattle.simplex.proofs.simplex.Simplex.without.Given as goal

abbrev pub invariant-loop-other : goal.invariant-loop-other
invariant-loop-other l = l.rest ++ without (drop l.other-index l.self) l.label ≡ without l.self l.label
