use Rattle.std.proofs.Common.{ap, length, ◌∙◌}
use Rattle.facet_set.specs.Flips.{link_vertices}
use Rattle.face_lattice.specs.Lattice.{LatticeState}
use Rattle.face_lattice.specs.Slots.{cell_at}
use Rattle.face_lattice.proofs.ReadLaws.{up_or, read_of}
use Rattle.face_lattice.proofs.lattice.Lattice.up_count.Goals as goal

pub returns-in-Some-clause-value : goal.returns-in-Some-clause-value
returns-in-Some-clause-value c =
    let s = c.args.s.now in
    let v = c.self.inside.slab in
    ap length (c.up.ensures ∙ ap up_or c.in-Some.ensures.cell ∙ (read_of _ (cell_at v) s c.self.invariant.kept.cells c.in-Some.ensures.simplex).up_is ∙ ap (λ (l : LatticeState). link_vertices l.facets s) c.self.view_is)

pub returns-in-None-clause-value : goal.returns-in-None-clause-value
returns-in-None-clause-value c =
    let s = c.args.s.now in
    let v = c.self.inside.slab in
    ap length (ap up_or c.in-None.ensures.cell ∙ (read_of _ (cell_at v) s c.self.invariant.kept.cells c.in-None.ensures.simplex).up_is ∙ ap (λ (l : LatticeState). link_vertices l.facets s) c.self.view_is)
