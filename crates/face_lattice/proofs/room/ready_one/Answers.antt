use Rattle.std.proofs.Common.{◌^◌, length, subst, sym, ◌∙◌}
use Rattle.facet_set.proofs.FaceNumbers.{number_is}
use Rattle.face_lattice.specs.Slots.{AreNoted, AreNumbered}
use Rattle.face_lattice.proofs.KeepLaws.{room_keeps}
use Rattle.face_lattice.proofs.IdleLaws.{idle_same}
use Rattle.face_lattice.proofs.LastLaws.{lasting_again, lasting_kept}
use Rattle.face_lattice.proofs.OuterLaws.{whole_noted}
use Rattle.face_lattice.proofs.PlaceLaws.{ready_parts, some_stays}
use Rattle.face_lattice.proofs.SlabLaws.{on_ok}
use Rattle.face_lattice.proofs.room.ready_one.Goals as goal

pub make_ready-requires : goal.make_ready-requires
make_ready-requires c =
    let v = c.note.new.slab in
    let s = c.args.s.now in
    let n = number_is s c.len.result c.len.ensures.simplex c.len.ensures.value in
    let noted = subst (λ is. AreNumbered v s is) (sym c.deref.ensures.value) c.in_ok-note.ensures.noted in
    subst (λ g. AreNoted v s g c.deref.result.now) (sym n) (whole_noted v s c.deref.result.now noted)

pub returns-clause-cells : goal.returns-clause-cells
returns-clause-cells c = λ fs h. room_keeps fs c.note.new.slab c.make_ready.new.slab (c.note.ensures.cells fs h) c.make_ready.ensures.kept

pub returns-clause-ready : goal.returns-clause-ready
returns-clause-ready c =
    let v = c.note.new.slab in
    let s = c.args.s.now in
    on_ok _ _ c.make_ready.result (λ r. ready_parts v c.make_ready.new.slab s (2 ^ length s) c.note.new.ids.items c.args.labels.now c.len.ensures.simplex (whole_noted v s c.note.new.ids.items c.in_ok-note.ensures.noted) c.make_ready.ensures.ids r) c.make_ready.ensures.ready

pub returns-clause-stays : goal.returns-clause-stays
returns-clause-stays c = λ t f h. some_stays c.args.slab.now c.note.new.slab c.make_ready.new.slab t f c.note.ensures.stays c.make_ready.ensures.kept c.make_ready.ensures.stays h

pub returns-clause-lasts : goal.returns-clause-lasts
returns-clause-lasts c = lasting_again c.args.slab.now c.note.new.slab c.make_ready.new.slab c.note.ensures.lasts (lasting_kept c.note.new.slab c.make_ready.new.slab c.make_ready.ensures.ids c.make_ready.ensures.kept c.make_ready.ensures.asked)

pub returns-clause-idle : goal.returns-clause-idle
returns-clause-idle c = λ t w. idle_same c.note.new.slab c.make_ready.new.slab c.make_ready.ensures.kept c.make_ready.ensures.asked t ∙ c.note.ensures.idle t w
