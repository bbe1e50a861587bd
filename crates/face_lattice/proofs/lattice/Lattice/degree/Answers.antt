use Rattle.std.proofs.Common.{ap, ◌∙◌}
use Rattle.facet_set.specs.Numbers.{degree}
use Rattle.face_lattice.specs.Lattice.{LatticeState}
use Rattle.face_lattice.specs.Slots.{cell_at}
use Rattle.face_lattice.proofs.ReadLaws.{degree_or, read_of}
use Rattle.face_lattice.proofs.lattice.Lattice.degree.Goals as goal

pub returns-in-Some-clause-value : goal.returns-in-Some-clause-value
returns-in-Some-clause-value c =
    let s = c.args.s.now in
    let v = c.self.inside.slab in
    c.degree.ensures ∙ ap degree_or c.in-Some.ensures.cell ∙ (read_of _ (cell_at v) s c.self.invariant.kept.cells c.in-Some.ensures.simplex).degree_is ∙ ap (λ (l : LatticeState). degree l.facets s) c.self.view_is

pub returns-in-None-clause-value : goal.returns-in-None-clause-value
returns-in-None-clause-value c =
    let s = c.args.s.now in
    let v = c.self.inside.slab in
    ap degree_or c.in-None.ensures.cell ∙ (read_of _ (cell_at v) s c.self.invariant.kept.cells c.in-None.ensures.simplex).degree_is ∙ ap (λ (l : LatticeState). degree l.facets s) c.self.view_is
