use Rattle.std.proofs.Common.{◌≡◌}
use Rattle.simplex.specs.Binomials.{choose}
use Rattle.constructions.proofs.cyclic_spheres.choose.Given as goal

abbrev pub invariant-loop-i : goal.invariant-loop-i
invariant-loop-i l = l.count ≡ choose l.n l.i
