use Rattle.std.proofs.Common.{◌≡◌, map, take}
use Rattle.std.specs.List.{flat_map}
use Rattle.simplex.specs.Simplex.{union}
use Rattle.constructions.proofs.joins.unions.Given as goal

abbrev pub invariant-loop-s : goal.invariant-loop-s
invariant-loop-s l = l.list.items ≡ flat_map (λ s. map (union s) l.ys) (take l.s-index l.xs)
