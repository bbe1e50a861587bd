use Rattle.std.proofs.Common.{ap, ◌∙◌}
use Rattle.std.specs.List.{list_any}
use Rattle.facet_set.specs.Complex.{stands_in}
use Rattle.face_lattice.specs.Cells.{same}
use Rattle.face_lattice.specs.Lattice.{LatticeState}
use Rattle.face_lattice.proofs.ForgetLaws.{stands_is}
use Rattle.face_lattice.proofs.lattice.Lattice.has_room.Goals as goal

pub returns : goal.returns
returns c =
    let f = c.args.f.now in
    c.contains.ensures.value ∙ ap (list_any (λ y. same y f)) c.deref.ensures.value ∙ stands_is c.self.inside.members.items f ∙ ap (λ (l : LatticeState). stands_in l.room f) c.self.view_is
