use Rattle.std.proofs.Common.{sym, ap, ◌∙◌, subst, arith}
use Rattle.simplex.specs.InOrder.{put}
use Rattle.simplex.specs.Simplex.{is_within, simplex_cmp}
use Rattle.std.specs.List.{list_any}
use Rattle.facet_set.specs.Complex.{is_face, stands_in}
use Rattle.face_lattice.specs.Lattice.{LatticeState, IsRoomOf}
use Rattle.face_lattice.specs.Slots.{cell_at}
use Rattle.face_lattice.proofs.ForgetLaws.{member}
use Rattle.face_lattice.proofs.KeepLaws.{few}
use Rattle.face_lattice.proofs.LatticeLaws.{made, put_kept, faces_few, facets_few}
use Rattle.face_lattice.proofs.OuterLaws.{noted_as, part_found}
use Rattle.face_lattice.proofs.PartLaws.{place_is}
use Rattle.std.proofs.lemmas.Nat.{pow_pos}
use Rattle.face_lattice.proofs.PlaceLaws.{ids_there, ready_for, room_rest}
use Rattle.face_lattice.proofs.NeedLaws.{AreForRoom, for_rest}
use Rattle.face_lattice.proofs.HoldLaws.{holds_lasting}
use Rattle.face_lattice.proofs.LastLaws.{lasting_more}
use Rattle.face_lattice.proofs.lattice.Lattice.insert_noted.Goals as goal

pub gather-requires-clause-there : goal.gather-requires-clause-there
gather-requires-clause-there g c =
    let f = c.args.f.now in
    let room = c.self.inside.members.items in
    ids_there room c.self.inside.slab f c.self.invariant.ready (member room f (ap (λ (l : LatticeState). stands_in l.room f) c.self.view_is ∙ c.requires.room)) c.len.ensures.simplex

pub raise-requires-clause-noted : goal.raise-requires-clause-noted
raise-requires-clause-noted g c = noted_as c.self.inside.slab c.args.f.now c.len.result c.gather.new.ids.items c.deref.result.now c.len.ensures.simplex c.len.ensures.value c.deref.ensures.value c.gather.ensures.noted

pub raise-requires-clause-few : goal.raise-requires-clause-few
raise-requires-clause-few g c = λ n. let k = c.self.invariant.kept.counts_are n in let most = faces_few _ c.self.inside.slab c.self.inside.counts c.self.invariant.kept n in omega (arith, k, most, c.gather.ensures.few)

pub insert_facet-requires-clause-noted : goal.insert_facet-requires-clause-noted
insert_facet-requires-clause-noted g c = noted_as c.self.inside.slab c.args.f.now c.len.result c.gather.new.ids.items c.deref-2.result.now c.len.ensures.simplex c.len.ensures.value c.deref-2.ensures.value c.gather.ensures.noted

pub insert_facet-requires-clause-few : goal.insert_facet-requires-clause-few
insert_facet-requires-clause-few g c =
    let most = facets_few _ c.self.inside.slab c.self.inside.counts c.self.invariant.kept in
    few _ c.self.inside.slab (omega (arith, most, c.gather.ensures.few)) c.self.invariant.kept.cells

pub insert_facet-requires-clause-ready : goal.insert_facet-requires-clause-ready
insert_facet-requires-clause-ready g c =
    let f = c.args.f.now in
    let room = c.self.inside.members.items in
    ready_for room c.self.inside.slab f c.self.invariant.ready (member room f (ap (λ (l : LatticeState). stands_in l.room f) c.self.view_is ∙ c.requires.room)) c.len.ensures.simplex

pub invariant_of-self : goal.invariant_of-self
invariant_of-self g c =
    let f = c.args.f.now in
    let v = c.self.inside.slab in
    let w = c.insert_facet.new.slab in
    let room = c.self.inside.members.items in
    let noted = noted_as v f c.len.result c.gather.new.ids.items c.deref-2.result.now c.len.ensures.simplex c.len.ensures.value c.deref-2.ensures.value c.gather.ensures.noted in
    let inside = member room f (ap (λ (l : LatticeState). stands_in l.room f) c.self.view_is ∙ c.requires.room) in
    record {
      kept = (made _ w c.raise.new.counts (put_kept _ v c.self.inside.counts c.self.invariant.kept w f _ _ c.raise.new.counts c.len.ensures.simplex
          (ap (λ (l : LatticeState). is_face l.facets f) c.self.view_is ∙ c.requires.new) (ap (λ (l : LatticeState). list_any (λ s. is_within s f) l.facets) c.self.view_is ∙ c.requires.above)
          noted c.insert_facet.ensures.cells (omega (arith, c.raise.auto.counts, c.self.invariant.kept.sizes)) c.raise.ensures)).kept;
      ready = subst (λ r. IsRoomOf r (cell_at w)) (sym c.forget.ensures) (room_rest room f (cell_at v) (cell_at w) c.self.invariant.ready inside c.insert_facet.ensures.cells);
      wide = omega (arith, c.self.invariant.wide, c.gather.ensures.capacity);
      needed = subst (λ r. AreForRoom (cell_at w) r) (sym c.forget.ensures) (for_rest v w room f c.self.invariant.needed c.insert_facet.ensures.cells);
    }

pub returns-clause-facets : goal.returns-clause-facets
returns-clause-facets g c =
    let f = c.args.f.now in
    let v = c.self.inside.slab in
    let w = c.insert_facet.new.slab in
    let noted = noted_as v f c.len.result c.gather.new.ids.items c.deref-2.result.now c.len.ensures.simplex c.len.ensures.value c.deref-2.ensures.value c.gather.ensures.noted in
    (made _ w c.raise.new.counts (put_kept _ v c.self.inside.counts c.self.invariant.kept w f _ _ c.raise.new.counts c.len.ensures.simplex
    (ap (λ (l : LatticeState). is_face l.facets f) c.self.view_is ∙ c.requires.new) (ap (λ (l : LatticeState). list_any (λ s. is_within s f) l.facets) c.self.view_is ∙ c.requires.above)
    noted c.insert_facet.ensures.cells (omega (arith, c.raise.auto.counts, c.self.invariant.kept.sizes)) c.raise.ensures)).facets
    ∙ ap (λ (l : LatticeState). put simplex_cmp f l.facets) c.self.view_is

pub returns-clause-holds : goal.returns-clause-holds
returns-clause-holds g c = holds_lasting c.args.self.now c.self.inside.slab c.insert_facet.new.slab _ _ _ _ (ap (λ (l : LatticeState). l.facets) (sym c.self.view_is)) (ap (λ (l : LatticeState). l.ids) (sym c.self.view_is)) (ap (λ (l : LatticeState). l.askers) (sym c.self.view_is)) c.self.invariant.kept.cells (lasting_more c.self.inside.slab c.insert_facet.new.slab c.args.f.now c.insert_facet.ensures.ids c.insert_facet.ensures.cells)

pub gather-requires-clause-found : goal.gather-requires-clause-found
gather-requires-clause-found g c =
    part_found c.args.self.now c.self.inside.slab c.args.outer.now c.args.place c.args.f.now _ c.args.ids.now c.requires.part (place_is c.args.outer.now c.args.place c.requires.outer c.requires.part.below) c.len.ensures.simplex
    (ap (λ (l : LatticeState). l.ids) (sym c.self.view_is)) c.requires.noted

pub gather-requires-clause-some : goal.gather-requires-clause-some
gather-requires-clause-some g c =
    let p = place_is c.args.outer.now c.args.place c.requires.outer c.requires.part.below in
    omega (arith, p, pow_pos c.args.place)
