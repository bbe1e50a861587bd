use Rattle.std.proofs.Common.{◌≡◌, Some, is_some, length, sym, ap, ◌∙◌, subst, arith}
use Rattle.std.specs.Map.{lookup}
use Rattle.std.proofs.lemmas.List.{get_or_default, length-set}
use Rattle.face_lattice.specs.Cells.{same}
use Rattle.face_lattice.specs.Slots.{no_slot, id_of, face_of, IsLed}
use Rattle.face_lattice.proofs.SlabLaws.{leads_fewer, one_less}
use Rattle.face_lattice.proofs.slab.Slab.put_back.Goals as goal

pub invariant_of-self : goal.invariant_of-self
invariant_of-self c =
    let ids = c.self.inside.ids.entries in
    let slots = c.self.inside.slots.items in
    let id = c.args.id in
    let face = c.index.result.now.face in
    let there = subst (λ v. id_of v (face_of v id) ≡ Some id) (sym c.self.view_is) c.requires in
    let led = c.self.invariant.led (face_of c.args.self.now id) id (subst (λ v. id_of v (face_of c.args.self.now id) ≡ Some id) (sym c.self.view_is) c.requires) in
    let e : face ≡ face_of c.args.self.now id = ap (λ w. w.face) (c.index.ensures ∙ get_or_default slots id c.index.result.now no_slot led.within) ∙ ap (λ v. face_of v id) c.self.view_is in
    let found : lookup (same face) ids ≡ Some id = ap (λ s. lookup (same s) ids) e ∙ ap (λ v. id_of v (face_of c.args.self.now id)) c.self.view_is ∙ c.requires in
    let less = one_less (is_some c.swap_remove.result) (length c.swap_remove.new.self.entries) (length ids) (ap is_some (c.swap_remove.ensures.value ∙ found)) c.swap_remove.ensures.len in
    record {
      led = leads_fewer ids c.swap_remove.new.self.entries slots face id c.end.new.self c.self.invariant.led (subst (λ s. IsLed slots s id) (sym e) led) c.swap_remove.ensures.updates.0;
      few = omega (arith, less, c.self.invariant.few, c.push.ensures.upper_bound, length-set slots id c.end.new.self);
      fits = omega (arith, c.self.invariant.fits, c.push.ensures.capacity, length-set slots id c.end.new.self);
    }

pub returns-clause-led : goal.returns-clause-led
returns-clause-led c =
    let ids = c.self.inside.ids.entries in
    let slots = c.self.inside.slots.items in
    let id = c.args.id in
    let face = c.index.result.now.face in
    let led = c.self.invariant.led (face_of c.args.self.now id) id (subst (λ v. id_of v (face_of c.args.self.now id) ≡ Some id) (sym c.self.view_is) c.requires) in
    let e : face ≡ face_of c.args.self.now id = ap (λ w. w.face) (c.index.ensures ∙ get_or_default slots id c.index.result.now no_slot led.within) ∙ ap (λ v. face_of v id) c.self.view_is in
    leads_fewer ids c.swap_remove.new.self.entries slots face id c.end.new.self c.self.invariant.led (subst (λ s. IsLed slots s id) (sym e) led) c.swap_remove.ensures.updates.0
