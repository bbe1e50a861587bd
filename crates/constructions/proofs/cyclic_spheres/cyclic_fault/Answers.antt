use Rattle.std.proofs.Common.{arith}
use Rattle.constructions.proofs.CyclicLaws.{size_fails, size_passes}
use Rattle.constructions.proofs.cyclic_spheres.cyclic_fault.Goals as goal

pub returns-then-facet_count-room-clause-exact : goal.returns-then-facet_count-room-clause-exact
returns-then-facet_count-room-clause-exact c =
    size_fails c.args.k c.args.n c.args.room (omega (arith, c.if-k-eq0.false)) c.if-n-k.false c.if-k.false c.if-n.false c.facet_count.result c.facet_count.ensures c.if-facet_count-room.true

pub returns-clause-exact : goal.returns-clause-exact
returns-clause-exact c =
    size_passes c.args.k c.args.n c.args.room (omega (arith, c.if-k-eq0.false)) c.if-n-k.false c.if-k.false c.if-n.false c.facet_count.result c.facet_count.ensures c.if-facet_count-room.false
