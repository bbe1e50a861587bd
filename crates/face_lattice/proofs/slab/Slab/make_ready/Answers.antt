use Rattle.std.proofs.Common.{◌≡◌, Some, IfSome, sym, ap, ◌∙◌, subst}
use Rattle.std.specs.Map.{lookup}
use Rattle.std.proofs.lemmas.List.{get_or_default}
use Rattle.face_lattice.specs.Cells.{same}
use Rattle.face_lattice.specs.States.{HasRoom}
use Rattle.face_lattice.specs.Slots.{no_slot, id_of, face_of}
use Rattle.face_lattice.proofs.SlabLaws.{slab_set, cell_here, on_ok}
use Rattle.face_lattice.proofs.slab.Slab.make_ready.Goals as goal

pub invariant_of-self : goal.invariant_of-self
invariant_of-self c =
    slab_set _ c.self.inside.slots.items _ _ c.args.id c.index_mut.result.now c.make_ready.new.self c.self.invariant c.index_mut.ensures.value (ap (λ w. w.face) c.make_ready.ensures.slot) (ap (λ w. w.used) c.make_ready.ensures.slot)

pub returns-clause-ok : goal.returns-clause-ok
returns-clause-ok c =
    let slots = c.self.inside.slots.items in
    let id = c.args.id in
    let s = face_of c.args.self.now id in
    let f = c.args.labels.now in
    let there : lookup (same s) c.self.inside.ids.entries ≡ Some id = ap (λ v. id_of v s) c.self.view_is ∙ c.requires in
    let led = c.self.invariant.led s id there in
    let face = ap (λ w. w.face) (c.index_mut.ensures.value ∙ get_or_default slots id c.index_mut.result.now no_slot led.within) ∙ led.face in
    on_ok (HasRoom f c.index_mut.result.now.face c.make_ready.new.self.cell) _ c.make_ready.result
    (λ r. subst (λ o. IfSome o (HasRoom f s)) (sym (cell_here c.self.inside.ids.entries slots id s c.make_ready.new.self led there)) (subst (λ t. HasRoom f t c.make_ready.new.self.cell) face r))
    c.make_ready.ensures.ok
