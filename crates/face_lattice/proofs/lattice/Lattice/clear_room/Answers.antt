use Rattle.std.proofs.Common.{◌≡◌, true, false, List, ℕ, IsTrue, ap, subst, sym, ◌∙◌}
use Rattle.face_lattice.specs.Lattice.{LatticeState, IsRoomOf}
use Rattle.face_lattice.specs.Slots.{cell_at}
use Rattle.face_lattice.proofs.LatticeLaws.{kept_still}
use Rattle.face_lattice.proofs.PlaceLaws.{no_room}
use Rattle.simplex.specs.Simplex.{is_simplex}
use Rattle.facet_set.specs.Complex.{is_face}
use Rattle.face_lattice.specs.States.{is_idle}
use Rattle.face_lattice.proofs.NeedLaws.{AreForRoom, for_none}
use Rattle.face_lattice.proofs.HoldLaws.{holds_lasting}
use Rattle.face_lattice.proofs.lattice.Lattice.clear_room.Goals as goal

pub invariant_of-self : goal.invariant_of-self
invariant_of-self c = record {
  kept = (kept_still c.self.inside.slab c.drop_each.new.slab c.self.inside.counts c.self.invariant.kept c.drop_each.ensures.cells).kept;
  ready = subst (λ r. IsRoomOf r (cell_at c.drop_each.new.slab)) (sym c.clear.ensures.items) (no_room (cell_at c.drop_each.new.slab));
  wide = c.self.invariant.wide;
  needed = subst (λ r. AreForRoom (cell_at c.drop_each.new.slab) r) (sym c.clear.ensures.items) (for_none c.self.inside.slab c.drop_each.new.slab c.self.inside.members.items c.self.invariant.needed c.drop_each.ensures.fewer (subst (λ r. (t : List ℕ) → IsTrue (is_simplex t) → is_face r t ≡ true → is_idle (cell_at c.drop_each.new.slab t) ≡ false) c.deref.ensures.value c.drop_each.ensures.gone));
}

pub returns-clause-facets : goal.returns-clause-facets
returns-clause-facets c = (kept_still c.self.inside.slab c.drop_each.new.slab c.self.inside.counts c.self.invariant.kept c.drop_each.ensures.cells).facets ∙ ap (λ (l : LatticeState). l.facets) c.self.view_is

pub returns-clause-holds : goal.returns-clause-holds
returns-clause-holds c = holds_lasting c.args.self.now c.self.inside.slab c.drop_each.new.slab _ _ _ _ (ap (λ (l : LatticeState). l.facets) (sym c.self.view_is)) (ap (λ (l : LatticeState). l.ids) (sym c.self.view_is)) (ap (λ (l : LatticeState). l.askers) (sym c.self.view_is)) c.self.invariant.kept.cells c.drop_each.ensures.lasts
