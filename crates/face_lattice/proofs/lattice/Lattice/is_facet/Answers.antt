use Rattle.std.proofs.Common.{ap, ◌∙◌}
use Rattle.facet_set.specs.Complex.{stands_in}
use Rattle.face_lattice.specs.Lattice.{LatticeState, is_facet_cell}
use Rattle.face_lattice.proofs.ViewLaws.{facet_is}
use Rattle.face_lattice.proofs.lattice.Lattice.is_facet.Goals as goal

pub returns-in-Some-clause-value : goal.returns-in-Some-clause-value
returns-in-Some-clause-value c =
    let v = c.self.inside.slab in
    let kept = c.self.invariant.kept in
    c.is_of_facet.ensures ∙ ap is_facet_cell c.in-Some.ensures.cell ∙ facet_is _ v kept.simplices kept.complex kept.cells c.args.s.now ∙ ap (λ (l : LatticeState). stands_in l.facets c.args.s.now) c.self.view_is

pub returns-in-None-clause-value : goal.returns-in-None-clause-value
returns-in-None-clause-value c =
    let v = c.self.inside.slab in
    let kept = c.self.invariant.kept in
    ap is_facet_cell c.in-None.ensures.cell ∙ facet_is _ v kept.simplices kept.complex kept.cells c.args.s.now ∙ ap (λ (l : LatticeState). stands_in l.facets c.args.s.now) c.self.view_is
