use Rattle.std.proofs.Common.{List, ℕ, nat_eq, take}
use Rattle.std.specs.HashMap.{get}
use Rattle.std.specs.Cmp.Lexicographic.{pointwise}
use Rattle.relabelling.specs.Ridges.{IsAcross, TellsTwo}
use Rattle.relabelling.proofs.RidgeLaws.{IsSoFar}
use Rattle.relabelling.proofs.ridges.ends.Given as goal

abbrev pub invariant-loop-s : goal.invariant-loop-s
invariant-loop-s l = (r : List ℕ) → TellsTwo (get (pointwise nat_eq) l.ends r) (IsAcross (take l.s-index l.simplices) r)

abbrev pub invariant-loop-label : goal.invariant-loop-label
invariant-loop-label l = (r : List ℕ) → TellsTwo (get (pointwise nat_eq) l.ends r) (IsSoFar (take l.s-index l.simplices) l.s (take l.label-index l.label-items) r)
