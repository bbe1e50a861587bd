use Rattle.std.proofs.Common.{◌≡◌, Some, IsTrue, sym, ap, ◌∙◌, subst}
use Rattle.simplex.specs.Simplex.{is_simplex}
use Rattle.facet_set.specs.Numbers.{degree}
use Rattle.face_lattice.specs.Lattice.{LatticeState, id_in}
use Rattle.face_lattice.specs.Slots.{cell_at, id_of}
use Rattle.face_lattice.proofs.ReadLaws.{degree_or, read_of}
use Rattle.face_lattice.proofs.lattice.Lattice.degree_of.Goals as goal

pub returns : goal.returns
returns c = λ s h.
    let v = c.self.inside.slab in
    let there : id_of v s ≡ Some c.args.id = ap (λ (l : LatticeState). id_in l s) c.self.view_is ∙ h in
    let st = subst (λ t. IsTrue (is_simplex t)) (c.slot-slot.ensures.face s there) c.len.ensures.simplex in
    c.degree.ensures ∙ ap degree_or (sym (c.slot-slot.ensures.cell s there)) ∙ (read_of _ (cell_at v) s c.self.invariant.kept.cells st).degree_is ∙ ap (λ (l : LatticeState). degree l.facets s) c.self.view_is
