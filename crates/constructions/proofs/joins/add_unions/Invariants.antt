use Rattle.std.proofs.Common.{◌≡◌, ◌++◌, map, take}
use Rattle.simplex.specs.Simplex.{union}
use Rattle.constructions.proofs.joins.add_unions.Given as goal

abbrev pub invariant-loop-t : goal.invariant-loop-t
invariant-loop-t l = l.list.items ≡ l.fn.list.items ++ map (union l.s) (take l.t-index l.ys)
