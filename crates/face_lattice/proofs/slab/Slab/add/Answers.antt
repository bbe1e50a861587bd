use Rattle.std.proofs.Common.{◌≡◌, ◌≤◌, ◌+◌, Some, is_some, if◌then◌else◌, IfOk, OnOk, cond, get_or, refl, ◌∙◌, length, sym, ap, subst, arith}
use Rattle.indexmap.specs.IndexMap.{Updates}
use Rattle.face_lattice.specs.Cells.{same}
use Rattle.std.specs.Map.{lookup}
use Rattle.std.specs.Option.{option_map}
use Rattle.facet_set.proofs.FaceNumbers.{same_from}
use Rattle.face_lattice.specs.Slots.{AreLed, no_slot}
use Rattle.face_lattice.specs.States.{asked}
use Rattle.face_lattice.proofs.SlabLaws.{leads_still, leads_more, at_most_one}
use Rattle.face_lattice.proofs.slab.Slab.add.Goals as goal

pub invariant_of-self-in_err-id : goal.invariant_of-self-in_err-id
invariant_of-self-in_err-id c =
    let ids = c.reserve.new.self.entries in
    let same_ids : ids ≡ c.self.inside.ids.entries = c.reserve.ensures.entries in
    record {
      led = leads_still ids c.self.inside.slots.items c.take.new.slots.items c.take.ensures.kept (subst (λ x. AreLed x c.self.inside.slots.items) (sym same_ids) c.self.invariant.led);
      few = omega (arith, c.self.invariant.few, c.take.ensures.fewer, ap length same_ids, c.take.new.slots.ok.0, c.self.inside.slots.ok.0);
      fits = omega (arith, c.take.ensures.room, c.take.new.slots.ok.0);
    }

pub invariant_of-self-2 : goal.invariant_of-self-2
invariant_of-self-2 c =
    let ids = c.reserve.new.self.entries in
    let same_ids : ids ≡ c.self.inside.ids.entries = c.reserve.ensures.entries in
    let slots = c.self.inside.slots.items in
    let more = subst (λ r. OnOk r (Updates same c.reserve.new.self c.insert.new.self c.args.s (Some c.in_ok-id.id))) c.unwrap.ensures c.insert.ensures.updates in
    let len = subst (λ r. IfOk r (λ old. length c.insert.new.self.entries ≡ length ids + (if is_some old then 0 else 1))) c.unwrap.ensures c.insert.ensures.len in
    let bound : length c.insert.new.self.entries ≤ length ids + 1 = at_most_one (is_some c.unwrap.result) _ _ len in
    record {
      led = leads_more ids c.insert.new.self.entries slots c.take.new.slots.items c.args.s c.in_ok-id.id c.take.ensures.kept (subst (λ x. AreLed x slots) (sym same_ids) c.self.invariant.led) c.in_ok-id.ensures.slot.led more.0;
      few = omega (arith, bound, c.self.invariant.few, c.in_ok-id.ensures.one_fewer, ap length same_ids, c.take.new.slots.ok.0, c.self.inside.slots.ok.0);
      fits = omega (arith, c.take.ensures.room, c.take.new.slots.ok.0);
    }

pub returns-in_err-reserve-clause-led : goal.returns-in_err-reserve-clause-led
returns-in_err-reserve-clause-led c =
    let same_ids : c.reserve.new.self.entries ≡ c.self.inside.ids.entries = c.reserve.ensures.entries in
    subst (λ x. AreLed x c.self.inside.slots.items) (sym same_ids) c.self.invariant.led

pub returns-in_err-id-clause-led : goal.returns-in_err-id-clause-led
returns-in_err-id-clause-led c =
    let ids = c.reserve.new.self.entries in
    let same_ids : ids ≡ c.self.inside.ids.entries = c.reserve.ensures.entries in
    leads_still ids c.self.inside.slots.items c.take.new.slots.items c.take.ensures.kept (subst (λ x. AreLed x c.self.inside.slots.items) (sym same_ids) c.self.invariant.led)

pub returns-clause-led : goal.returns-clause-led
returns-clause-led c =
    let ids = c.reserve.new.self.entries in
    let same_ids : ids ≡ c.self.inside.ids.entries = c.reserve.ensures.entries in
    let slots = c.self.inside.slots.items in
    let more = subst (λ r. OnOk r (Updates same c.reserve.new.self c.insert.new.self c.args.s (Some c.in_ok-id.id))) c.unwrap.ensures c.insert.ensures.updates in
    leads_more ids c.insert.new.self.entries slots c.take.new.slots.items c.args.s c.in_ok-id.id c.take.ensures.kept (subst (λ x. AreLed x slots) (sym same_ids) c.self.invariant.led) c.in_ok-id.ensures.slot.led more.0

pub returns-clause-asked : goal.returns-clause-asked
returns-clause-asked c =
    let ids = c.reserve.new.self.entries in
    let s = c.args.s in
    let more = subst (λ r. OnOk r (Updates same c.reserve.new.self c.insert.new.self s (Some c.in_ok-id.id))) c.unwrap.ensures c.insert.ensures.updates in
    let found : lookup (same s) c.insert.new.self.entries ≡ Some c.in_ok-id.id = more.0 s ∙ ap (λ b. cond b (Some c.in_ok-id.id) (lookup (same s) ids)) (same_from s s refl) in
    ap (λ o. asked (option_map (λ i. (get_or c.take.new.slots.items i no_slot).cell) o)) found ∙ c.in_ok-id.ensures.slot.askers
