use Rattle.std.proofs.Common.{◌≡◌, false, get_or, arith}
use Rattle.std.specs.Prelude.{◌==◌}
use Rattle.std.proofs.lemmas.Bool.Decides.{nat_tests}
use Rattle.face_lattice.proofs.ForgetLaws.{more_labels}
use Rattle.face_lattice.proofs.cell.place_of_asker.Goals as goal

pub loop-k-preserved : goal.loop-k-preserved
loop-k-preserved c =
    let other = c.if-a-asker.false in
    let test : (c.args.asker == get_or c.args.askers.now c.loop-k.k 0) ≡ false = grind (arith, nat_tests) in
    more_labels c.args.asker c.args.askers.now c.loop-k.k 0 c.loop-k-test.true test c.loop-k.invariant
