use Rattle.std.proofs.Common.{sym, ap, ◌∙◌}
use Rattle.simplex.specs.Simplex.{is_same}
use Rattle.facet_set.proofs.FaceNumbers.{swapped}
use Rattle.facet_set.proofs.GeneratedLaws.{same_is}
use Rattle.face_lattice.proofs.ForgetLaws.{more_others}
use Rattle.face_lattice.proofs.lattice.place_in.Goals as goal

pub loop-k-preserved : goal.loop-k-preserved
loop-k-preserved c =
    let f = c.args.f.now in
    let s = c.index-list-k.result in
    more_others f c.args.list.now c.loop-k.k s c.loop-k-test.true
    (ap (is_same f) (sym c.index-list-k.is) ∙ sym (swapped s f ∙ same_is f s) ∙ sym c.eq.ensures ∙ c.if-eq.false) c.loop-k.invariant
