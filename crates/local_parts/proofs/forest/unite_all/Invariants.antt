use Rattle.std.proofs.Common.{length, take}
use Rattle.local_parts.specs.Forest.{IsForest}
use Rattle.local_parts.proofs.forest.unite_all.Given as goal

abbrev pub invariant-loop-pair : goal.invariant-loop-pair
invariant-loop-pair l = IsForest (length l.fn.parents) (take l.pair-index l.pairs) l.pairs l.parents
