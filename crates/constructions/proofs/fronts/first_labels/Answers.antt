use Rattle.std.proofs.Common.{arith}
use Rattle.constructions.proofs.FrontLaws.{range_next, range_step}
use Rattle.constructions.proofs.fronts.first_labels.Goals as goal

pub with_last-front-requires : goal.with_last-front-requires
with_last-front-requires c = range_next c.loop-i.i c.loop-i.front (omega arith) c.loop-i.invariant

pub loop-i-preserved : goal.loop-i-preserved
loop-i-preserved c = range_step c.loop-i.i c.loop-i.front c.with_last-front.result c.loop-i.invariant c.with_last-front.ensures
