use Rattle.std.proofs.Common.{arith}
use Rattle.facet_set.proofs.FaceNumbers.{number_is}
use Rattle.face_lattice.proofs.FallLaws.{small_mask}
use Rattle.face_lattice.proofs.passes.make_ready.Goals as goal

pub id_at-requires-clause-small : goal.id_at-requires-clause-small
id_at-requires-clause-small c =
    let f = c.args.facet.now in
    let n = number_is f c.len.result c.len.ensures.simplex c.len.ensures.value in
    let small = small_mask f c.loop-mask.mask c.len.ensures.simplex (omega (arith, n, c.loop-mask-test.true)) in
    omega (arith, small)
