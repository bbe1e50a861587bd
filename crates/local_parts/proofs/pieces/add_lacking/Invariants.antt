use Rattle.std.proofs.Common.{◌≡◌, ◌++◌, map, take}
use Rattle.simplex.specs.Simplex.{without}
use Rattle.local_parts.proofs.pieces.add_lacking.Given as goal

abbrev pub invariant-loop-label : goal.invariant-loop-label
invariant-loop-label l = l.list.items ≡ l.fn.list.items ++ map (without l.s) (take l.label-index l.labels)
