use Rattle.std.proofs.lemmas.List.{take_all}
use Rattle.std.proofs.Common.{◌∙◌, ℕ, List, IsTrue, IsSomeAnd, refl, ap, subst, sym, inl, inr, arith}
use Rattle.simplex.specs.Simplex.{is_simplex, is_within}
use Rattle.simplex.proofs.Members.{In, none}
use Rattle.facet_set.proofs.GeneratedLaws.{taken_in}
use Rattle.face_lattice.specs.Slots.{cell_at}
use Rattle.face_lattice.specs.States.{HasRoom}
use Rattle.face_lattice.proofs.IdleLaws.{none_of}
use Rattle.face_lattice.proofs.LastLaws.{lasting_again, lasting_itself}
use Rattle.face_lattice.proofs.PlaceLaws.{room_from}
use Rattle.face_lattice.proofs.room.ready_each.Goals as goal

pub loop-s-preserved : goal.loop-s-preserved
loop-s-preserved c = record {
  lasts = lasting_again c.args.slab.now c.loop-s.slab c.ready_one.new.slab c.loop-s.invariant.lasts c.ready_one.ensures.lasts;
  cells = λ fs h. c.ready_one.ensures.cells fs (c.loop-s.invariant.cells fs h);
  idle = λ t w.
      c.ready_one.ensures.idle t (ap (is_within t) c.s-item.is ∙ none_of c.args.list.now c.loop-s.s-index c.s-item.result t c.loop-s-test.true w)
      ∙ c.loop-s.invariant.idle t w;
  ready = λ s i t st w. elim (taken_in c.args.list.now c.loop-s.s-index c.s-item.result s c.loop-s-test.true i) [
    | inl j ↦ c.ready_one.ensures.stays t c.args.labels.now (c.loop-s.invariant.ready s j t st w)
    | inr e ↦ c.in_ok-ready_one.ensures.ready t st (subst (λ u. IsTrue (is_within t u)) (e ∙ sym c.s-item.is) w)
  ];
  capacity = omega (arith, c.loop-s.invariant.capacity, c.ready_one.ensures.capacity);
}

pub returns-clause-room : goal.returns-clause-room
returns-clause-room c = room_from c.args.list.now c.args.labels.now (cell_at c.loop-s.slab) c.requires (subst (λ xs. (s : List ℕ) → In s xs → (t : List ℕ) → IsTrue (is_simplex t) → IsTrue (is_within t s) → IsSomeAnd (cell_at c.loop-s.slab t) (HasRoom c.args.labels.now t)) (take_all c.loop-s.s-index c.args.list.now (omega (arith, c.loop-s-test.false))) c.loop-s.invariant.ready)

pub returns-in_err-ready_one-clause-lasts : goal.returns-in_err-ready_one-clause-lasts
returns-in_err-ready_one-clause-lasts c = lasting_again c.args.slab.now c.loop-s.slab c.ready_one.new.slab c.loop-s.invariant.lasts c.ready_one.ensures.lasts

pub returns-in_err-ready_one-clause-idle : goal.returns-in_err-ready_one-clause-idle
returns-in_err-ready_one-clause-idle c = λ t w.
    c.ready_one.ensures.idle t (ap (is_within t) c.s-item.is ∙ none_of c.args.list.now c.loop-s.s-index c.s-item.result t c.loop-s-test.true w) ∙ c.loop-s.invariant.idle t w

pub loop-s-init : goal.loop-s-init
loop-s-init c = record { lasts = lasting_itself c.args.slab.now; cells = λ fs h. h; idle = λ t w. refl; ready = λ s i. absurd (none s i); capacity = omega arith }
