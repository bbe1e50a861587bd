use Rattle.std.proofs.Common.{take}
use Rattle.relabelling.specs.Walks.{GoesOn}
use Rattle.relabelling.proofs.WalkLaws.{ReachesFrom}
use Rattle.relabelling.proofs.extending.Walk.spread.Given as goal

abbrev pub invariant-loop-label : goal.invariant-loop-label
invariant-loop-label l = record { goes_on : GoesOn l.ways.c.now l.ways.d.now l.fn.self l.self; reaches : ReachesFrom l.ways.c.now l.self l.facet (take l.label-index l.label-items) }
