use Rattle.std.proofs.Common.{ℕ, List, take}
use Rattle.simplex.specs.Members.{In}
use Rattle.facet_set.proofs.GeneratedLaws.{IsMeasured}
use Rattle.facet_set.proofs.generated.measure.Given as goal

abbrev pub invariant-loop-s : goal.invariant-loop-s
invariant-loop-s l = (s : List ℕ) → In s (take l.s-index l.members) → IsMeasured l.shortest l.longest s
