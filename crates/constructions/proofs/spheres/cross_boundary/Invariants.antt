use Rattle.std.proofs.Common.{◌≡◌}
use Rattle.constructions.specs.Spheres.{one_of_each}
use Rattle.constructions.proofs.spheres.cross_boundary.Given as goal

abbrev pub invariant-loop-i : goal.invariant-loop-i
invariant-loop-i l = l.list.items ≡ one_of_each l.i
