use Rattle.std.proofs.Common.{arith}
use Rattle.constructions.proofs.StackedLaws.{size_fails, size_passes, weight_fits}
use Rattle.constructions.proofs.stacked_spheres.stacked_fault.Goals as goal

pub returns-then-d-n-clause-exact : goal.returns-then-d-n-clause-exact
returns-then-d-n-clause-exact c = λ seed.
    size_fails c.args.d c.args.n seed c.args.room (omega (arith, c.if-d-eq0.false)) (omega (arith, c.if-d.false)) (omega (arith, c.if-d.false, c.if-n-d.false)) _
    (weight_fits c.args.d c.args.n c.if-d.false c.if-n-d.false) c.if-d-n.true

pub returns-clause-exact : goal.returns-clause-exact
returns-clause-exact c = λ seed.
    size_passes c.args.d c.args.n seed c.args.room (omega (arith, c.if-d-eq0.false)) (omega (arith, c.if-d.false)) (omega (arith, c.if-d.false, c.if-n-d.false)) _
    (weight_fits c.args.d c.args.n c.if-d.false c.if-n-d.false) c.if-d-n.false
