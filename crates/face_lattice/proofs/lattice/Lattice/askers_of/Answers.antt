use Rattle.std.proofs.Common.{◌≡◌, Some, sym, ap, ◌∙◌}
use Rattle.face_lattice.specs.Lattice.{LatticeState, askers_in, id_in}
use Rattle.face_lattice.specs.Slots.{id_of}
use Rattle.face_lattice.specs.States.{asked}
use Rattle.face_lattice.proofs.HoldLaws.{askers_are}
use Rattle.face_lattice.proofs.lattice.Lattice.askers_of.Goals as goal

pub returns : goal.returns
returns c = λ s h.
    let v = c.self.inside.slab in
    let there : id_of v s ≡ Some c.args.id = ap (λ (l : LatticeState). id_in l s) c.self.view_is ∙ h in
    c.askers.ensures ∙ ap asked (sym (c.slot.ensures.cell s there)) ∙ sym (askers_are v s) ∙ ap (λ (l : LatticeState). askers_in l s) c.self.view_is
