use Rattle.std.proofs.Common.{ap, ◌∙◌}
use Rattle.facet_set.specs.Numbers.{faces_of_size}
use Rattle.face_lattice.specs.Lattice.{LatticeState}
use Rattle.face_lattice.proofs.KeyLaws.{faces_are}
use Rattle.face_lattice.proofs.lattice.Lattice.faces_of_size.Goals as goal

pub returns : goal.returns
returns c =
    c.from_vec.ensures
    ∙ c.in_ok-unpacked.ensures
    ∙ c.deref.ensures.value
    ∙ faces_are _ c.self.inside.slab c.self.invariant.kept.simplices c.self.invariant.kept.cells c.in_ok-faces.ensures.unique c.args.size
    c.in_ok-faces.faces.items c.sort_unstable.new.self.items c.in_ok-faces.ensures.faces c.sort_unstable.ensures.permutation c.sort_unstable.ensures.sorted
    ∙ ap (λ (l : LatticeState). faces_of_size l.facets c.args.size) c.self.view_is
