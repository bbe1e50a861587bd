use Rattle.std.proofs.Common.{cond, sym, ap, ◌∙◌, subst}
use Rattle.simplex.specs.Simplex.{without}
use Rattle.face_lattice.specs.Lattice.{LatticeState, IsRoomOf, askers_in, id_in}
use Rattle.face_lattice.specs.Slots.{cell_at, id_of, is_some_id}
use Rattle.face_lattice.specs.States.{without_asker}
use Rattle.face_lattice.proofs.AskLaws.{fewer_asked, fewer_cells}
use Rattle.face_lattice.proofs.IdLaws.{asked_seen, ids_of_held}
use Rattle.face_lattice.proofs.LatticeLaws.{kept_still}
use Rattle.face_lattice.proofs.NeedLaws.{for_fewer}
use Rattle.face_lattice.proofs.PlaceLaws.{no_room}
use Rattle.face_lattice.proofs.lattice.Lattice.dismiss_at.Goals as goal

pub invariant_of-self : goal.invariant_of-self
invariant_of-self c =
    let v = c.self.inside.slab in
    let w = c.unask_at.new.self in
    let none = ap (λ (l : LatticeState). l.room) c.self.view_is ∙ c.requires.room in
    record {
      kept = (kept_still v w c.self.inside.counts c.self.invariant.kept (fewer_cells v w (λ t. is_some_id c.args.id (id_of v t)) c.args.asker c.unask_at.ensures.cells)).kept;
      ready = subst (λ r. IsRoomOf r (cell_at w)) (sym none) (no_room (cell_at w));
      wide = c.self.invariant.wide;
      needed = for_fewer v w (λ t. is_some_id c.args.id (id_of v t)) (λ t. without_asker c.args.asker (cell_at v t)) c.self.inside.members.items c.self.invariant.needed c.unask_at.ensures.cells;
    }

pub returns-clause-facets : goal.returns-clause-facets
returns-clause-facets c =
    let v = c.self.inside.slab in
    let w = c.unask_at.new.self in
    (kept_still v w c.self.inside.counts c.self.invariant.kept (fewer_cells v w (λ t. is_some_id c.args.id (id_of v t)) c.args.asker c.unask_at.ensures.cells)).facets ∙ ap (λ (l : LatticeState). l.facets) c.self.view_is

pub returns-clause-asked : goal.returns-clause-asked
returns-clause-asked c =
    let v = c.self.inside.slab in
    let w = c.unask_at.new.self in
    let a = c.args.asker in
    λ s. asked_seen c.args.self.now v w (λ t. is_some_id c.args.id (id_of v t)) (λ xs. without xs a) (ap (λ (l : LatticeState). l.askers) (sym c.self.view_is)) (fewer_asked v w (λ t. is_some_id c.args.id (id_of v t)) a c.unask_at.ensures.cells) s
    ∙ ap (λ (l : LatticeState). cond (is_some_id c.args.id (id_in l s)) (without (askers_in c.args.self.now s) a) (askers_in c.args.self.now s)) c.self.view_is

pub returns-clause-ids : goal.returns-clause-ids
returns-clause-ids c =
    let v = c.self.inside.slab in
    let w = c.unask_at.new.self in
    let made = kept_still v w c.self.inside.counts c.self.invariant.kept (fewer_cells v w (λ t. is_some_id c.args.id (id_of v t)) c.args.asker c.unask_at.ensures.cells) in
    λ s h. ids_of_held v w _ made.kept.cells c.unask_at.ensures.ids s h ∙ ap (λ (l : LatticeState). id_in l s) c.self.view_is
