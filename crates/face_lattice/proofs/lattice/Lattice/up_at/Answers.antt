use Rattle.std.proofs.Common.{◌≡◌, length, slice_get, ap, sym, ◌∙◌, arith, true≢false}
use Rattle.facet_set.specs.Flips.{link_vertices}
use Rattle.face_lattice.specs.Lattice.{LatticeState}
use Rattle.face_lattice.specs.Slots.{cell_at}
use Rattle.face_lattice.proofs.ReadLaws.{up_or, read_of}
use Rattle.face_lattice.proofs.lattice.Lattice.up_at.Goals as goal

pub returns-in-Some-clause-value : goal.returns-in-Some-clause-value
returns-in-Some-clause-value c =
    let s = c.args.s.now in
    let v = c.self.inside.slab in
    c.label_at.ensures.value ∙ ap (λ xs. slice_get xs c.args.k) (ap up_or c.in-Some.ensures.cell ∙ (read_of _ (cell_at v) s c.self.invariant.kept.cells c.in-Some.ensures.simplex).up_is ∙ ap (λ (l : LatticeState). link_vertices l.facets s) c.self.view_is)

pub returns-in-None-clause-value : goal.returns-in-None-clause-value
returns-in-None-clause-value c =
    let s = c.args.s.now in
    let v = c.self.inside.slab in
    ap (λ xs. slice_get xs c.args.k) (ap up_or c.in-None.ensures.cell ∙ (read_of _ (cell_at v) s c.self.invariant.kept.cells c.in-None.ensures.simplex).up_is ∙ ap (λ (l : LatticeState). link_vertices l.facets s) c.self.view_is)

pub returns-in-Some-clause-variant : goal.returns-in-Some-clause-variant
returns-in-Some-clause-variant c =
    let s = c.args.s.now in
    let v = c.self.inside.slab in
    let e : length c.in-Some.cell.now.up ≡ length (link_vertices c.args.self.now.facets s) =
    ap length (ap up_or c.in-Some.ensures.cell ∙ (read_of _ (cell_at v) s c.self.invariant.kept.cells c.in-Some.ensures.simplex).up_is ∙ ap (λ (l : LatticeState). link_vertices l.facets s) c.self.view_is) in
    (λ h. omega (arith, e, c.label_at.ensures.variant.0 h), λ h. c.label_at.ensures.variant.1 (omega (arith, e, h)))

pub returns-in-None-clause-variant : goal.returns-in-None-clause-variant
returns-in-None-clause-variant c =
    let s = c.args.s.now in
    let v = c.self.inside.slab in
    let e : 0 ≡ length (link_vertices c.args.self.now.facets s) =
    ap length (ap up_or c.in-None.ensures.cell ∙ (read_of _ (cell_at v) s c.self.invariant.kept.cells c.in-None.ensures.simplex).up_is ∙ ap (λ (l : LatticeState). link_vertices l.facets s) c.self.view_is) in
    (λ h. absurd (true≢false (sym h)), λ h. absurd (omega (arith, e, h)))
