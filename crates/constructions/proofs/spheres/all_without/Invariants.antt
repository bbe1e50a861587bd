use Rattle.std.proofs.Common.{◌≡◌, map, take}
use Rattle.simplex.specs.Simplex.{without}
use Rattle.constructions.proofs.spheres.all_without.Given as goal

abbrev pub invariant-loop-label : goal.invariant-loop-label
invariant-loop-label l = l.list.items ≡ map (without l.labels) (take l.label-index l.labels)
