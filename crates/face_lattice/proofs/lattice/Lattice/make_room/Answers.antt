use Rattle.std.proofs.Common.{◌≡◌, true, false, ap, subst, sym, ◌∙◌, List, ℕ, IsTrue, arith}
use Rattle.simplex.specs.Simplex.{is_simplex, is_within}
use Rattle.facet_set.specs.Complex.{is_face}
use Rattle.face_lattice.specs.States.{is_idle}
use Rattle.face_lattice.proofs.NeedLaws.{AreForRoom, for_none, for_these}
use Rattle.simplex.proofs.Members.{In}
use Rattle.face_lattice.specs.Lattice.{LatticeState, IsRoomOf}
use Rattle.face_lattice.specs.Slots.{cell_at}
use Rattle.face_lattice.proofs.LatticeLaws.{kept_still}
use Rattle.face_lattice.proofs.PlaceLaws.{no_room, verts_above}
use Rattle.face_lattice.proofs.HoldLaws.{holds_lasting}
use Rattle.face_lattice.proofs.LastLaws.{lasting_again}
use Rattle.face_lattice.proofs.lattice.Lattice.make_room.Goals as goal

pub ready_each-requires : goal.ready_each-requires
ready_each-requires c = subst (λ xs. (s : List ℕ) → In s xs → IsTrue (is_within s c.args.labels.now)) (sym c.deref.ensures.value) (verts_above c.args.members.items c.args.labels.now c.requires.labels)

pub invariant_of-self : goal.invariant_of-self
invariant_of-self c = record {
  kept = (kept_still c.self.inside.slab c.ready_each.new.slab c.self.inside.counts c.self.invariant.kept c.ready_each.ensures.cells).kept;
  ready = subst (λ r. IsRoomOf r (cell_at c.ready_each.new.slab)) c.deref.ensures.value c.in-Ok.ensures.room;
  wide = omega (arith, c.self.invariant.wide, c.ready_each.ensures.capacity);
  needed = subst (λ r. AreForRoom (cell_at c.ready_each.new.slab) r) c.deref.ensures.value (for_these c.self.inside.slab c.ready_each.new.slab c.deref.result.now
      (subst (λ r. AreForRoom (cell_at c.self.inside.slab) r) (ap (λ (l : LatticeState). l.room) c.self.view_is ∙ c.requires.room) c.self.invariant.needed) c.ready_each.ensures.idle);
}

pub returns-in-Ok-clause-facets : goal.returns-in-Ok-clause-facets
returns-in-Ok-clause-facets c = (kept_still c.self.inside.slab c.ready_each.new.slab c.self.inside.counts c.self.invariant.kept c.ready_each.ensures.cells).facets ∙ ap (λ (l : LatticeState). l.facets) c.self.view_is

pub returns-in-Err-clause-facets : goal.returns-in-Err-clause-facets
returns-in-Err-clause-facets c = (kept_still c.self.inside.slab c.drop_each.new.slab c.self.inside.counts c.self.invariant.kept (λ fs h. c.drop_each.ensures.cells fs (c.ready_each.ensures.cells fs h))).facets ∙ ap (λ (l : LatticeState). l.facets) c.self.view_is

pub invariant_of-self-in-Err-1 : goal.invariant_of-self-in-Err-1
invariant_of-self-in-Err-1 c = record {
  kept = (kept_still c.self.inside.slab c.drop_each.new.slab c.self.inside.counts c.self.invariant.kept (λ fs h. c.drop_each.ensures.cells fs (c.ready_each.ensures.cells fs h))).kept;
  ready = subst (λ r. IsRoomOf r (cell_at c.drop_each.new.slab)) (sym (ap (λ (l : LatticeState). l.room) c.self.view_is ∙ c.requires.room)) (no_room (cell_at c.drop_each.new.slab));
  wide = omega (arith, c.self.invariant.wide, c.ready_each.ensures.capacity);
  needed = subst (λ r. AreForRoom (cell_at c.drop_each.new.slab) r) (sym (ap (λ (l : LatticeState). l.room) c.self.view_is ∙ c.requires.room))
      (for_none c.ready_each.new.slab c.drop_each.new.slab c.deref.result.now (for_these c.self.inside.slab c.ready_each.new.slab c.deref.result.now
      (subst (λ r. AreForRoom (cell_at c.self.inside.slab) r) (ap (λ (l : LatticeState). l.room) c.self.view_is ∙ c.requires.room) c.self.invariant.needed) c.ready_each.ensures.idle) c.drop_each.ensures.fewer
      (subst (λ r. (t : List ℕ) → IsTrue (is_simplex t) → is_face r t ≡ true → is_idle (cell_at c.drop_each.new.slab t) ≡ false) (c.deref-in-Err.ensures.value ∙ sym c.deref.ensures.value) c.drop_each.ensures.gone));
}

pub returns-in-Ok-clause-holds : goal.returns-in-Ok-clause-holds
returns-in-Ok-clause-holds c = holds_lasting c.args.self.now c.self.inside.slab c.ready_each.new.slab _ _ _ _ (ap (λ (l : LatticeState). l.facets) (sym c.self.view_is)) (ap (λ (l : LatticeState). l.ids) (sym c.self.view_is)) (ap (λ (l : LatticeState). l.askers) (sym c.self.view_is)) c.self.invariant.kept.cells c.ready_each.ensures.lasts

pub returns-in-Err-clause-holds : goal.returns-in-Err-clause-holds
returns-in-Err-clause-holds c = holds_lasting c.args.self.now c.self.inside.slab c.drop_each.new.slab _ _ _ _ (ap (λ (l : LatticeState). l.facets) (sym c.self.view_is)) (ap (λ (l : LatticeState). l.ids) (sym c.self.view_is)) (ap (λ (l : LatticeState). l.askers) (sym c.self.view_is)) c.self.invariant.kept.cells (lasting_again c.self.inside.slab c.ready_each.new.slab c.drop_each.new.slab c.ready_each.ensures.lasts c.drop_each.ensures.lasts)
