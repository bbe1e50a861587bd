use Rattle.std.proofs.Common.{◌≡◌, ◌%◌, ap, length, arith}
use Rattle.constructions.proofs.CountLaws.{count_odd, count_even}
use Rattle.constructions.proofs.RunLaws.{cyclic_is}
use Rattle.constructions.proofs.cyclic_spheres.facet_count.Goals as goal

pub returns-then-k-eq0 : goal.returns-then-k-eq0
returns-then-k-eq0 c =
    let n = count_even c.args.k c.args.n c.requires.some c.requires.more c.if-k-eq0.true in
    omega (arith, n, ap length (cyclic_is c.args.k c.args.n), c.choose.ensures.value, c.choose-then-k-eq0.ensures.value)

pub returns-else-k-eq0 : goal.returns-else-k-eq0
returns-else-k-eq0 c =
    let odd : c.args.k % 2 ≡ 1 = omega (arith, c.if-k-eq0.false) in
    let n = count_odd c.args.k c.args.n c.requires.more odd in
    omega (arith, n, ap length (cyclic_is c.args.k c.args.n), c.choose-else-k-eq0.ensures.value)
