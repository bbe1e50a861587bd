use Rattle.std.proofs.Common.{sym, ap, ◌∙◌, ◌&&◌, subst, arith}
use Rattle.simplex.specs.Simplex.{is_simplex, is_within, subset_at}
use Rattle.simplex.proofs.Filled.{simplex-subset_at}
use Rattle.simplex.proofs.SubsetLaws.{subset_within}
use Rattle.facet_set.specs.Complex.{stands_in}
use Rattle.facet_set.proofs.ComplexLaws.{face_from}
use Rattle.face_lattice.specs.Lattice.{LatticeState, IsRoomOf, all_but, facets_in}
use Rattle.face_lattice.specs.Slots.{cell_at}
use Rattle.face_lattice.proofs.ForgetLaws.{member}
use Rattle.face_lattice.proofs.KeepLaws.{present, put_back_keeps}
use Rattle.face_lattice.proofs.LatticeLaws.{made, take_kept, cells_last, cells_left, count_left}
use Rattle.face_lattice.proofs.OuterLaws.{noted_as, part_found}
use Rattle.face_lattice.proofs.PartLaws.{place_is}
use Rattle.std.proofs.lemmas.Nat.{pow_pos}
use Rattle.face_lattice.proofs.PlaceLaws.{no_room}
use Rattle.face_lattice.proofs.SlabLaws.{still_all_noted}
use Rattle.face_lattice.proofs.ViewLaws.{face_key}
use Rattle.face_lattice.proofs.NeedLaws.{for_same}
use Rattle.face_lattice.proofs.HoldLaws.{holds_less}
use Rattle.face_lattice.proofs.LastLaws.{asked_after_less}
use Rattle.face_lattice.proofs.lattice.Lattice.remove_noted.Goals as goal

pub gather-requires-clause-there : goal.gather-requires-clause-there
gather-requires-clause-there g c =
    let f = c.args.f.now in
    let v = c.self.inside.slab in
    let kept = c.self.invariant.kept in
    let inside = member (facets_in v) f (ap (λ (l : LatticeState). stands_in l.facets f) c.self.view_is ∙ c.requires.facet) in
    λ k l. face_key (facets_in v) v kept.simplices kept.complex kept.cells (subset_at f k) (simplex-subset_at f k c.len.ensures.simplex) (face_from (facets_in v) (subset_at f k) f inside (subset_within f k))

pub remove_facet-requires-clause-noted : goal.remove_facet-requires-clause-noted
remove_facet-requires-clause-noted g c = noted_as c.self.inside.slab c.args.f.now c.len.result c.gather.new.ids.items c.deref.result.now c.len.ensures.simplex c.len.ensures.value c.deref.ensures.value c.gather.ensures.noted

pub remove_facet-requires-clause-present : goal.remove_facet-requires-clause-present
remove_facet-requires-clause-present g c =
    let f = c.args.f.now in
    let v = c.self.inside.slab in
    let inside = member (facets_in v) f (ap (λ (l : LatticeState). stands_in l.facets f) c.self.view_is ∙ c.requires.facet) in
    present (all_but f (facets_in v)) f v c.len.ensures.simplex (cells_last (facets_in v) v c.self.inside.counts c.self.invariant.kept f inside)

pub lower-requires-clause-noted : goal.lower-requires-clause-noted
lower-requires-clause-noted g c =
    let f = c.args.f.now in
    let v = c.self.inside.slab in
    still_all_noted v c.remove_facet.new.slab f _ c.deref-2.result.now c.remove_facet.ensures.ids (noted_as v f c.len.result c.gather.new.ids.items c.deref-2.result.now c.len.ensures.simplex c.len.ensures.value c.deref-2.ensures.value c.gather.ensures.noted)

pub lower-requires-clause-all : goal.lower-requires-clause-all
lower-requires-clause-all g c =
    let f = c.args.f.now in
    let v = c.self.inside.slab in
    let w = c.remove_facet.new.slab in
    let inside = member (facets_in v) f (ap (λ (l : LatticeState). stands_in l.facets f) c.self.view_is ∙ c.requires.facet) in
    let noted = still_all_noted v w f _ c.deref-2.result.now c.remove_facet.ensures.ids (noted_as v f c.len.result c.gather.new.ids.items c.deref-2.result.now c.len.ensures.simplex c.len.ensures.value c.deref-2.ensures.value c.gather.ensures.noted) in
    λ n. let e = count_left (facets_in v) v c.self.inside.counts c.self.invariant.kept f inside w _ _ noted c.remove_facet.ensures.cells n in omega (arith, e)

pub invariant_of-self : goal.invariant_of-self
invariant_of-self g c =
    let f = c.args.f.now in
    let v = c.self.inside.slab in
    let w = c.remove_facet.new.slab in
    let u = c.put_back.new.slab in
    let inside = member (facets_in v) f (ap (λ (l : LatticeState). stands_in l.facets f) c.self.view_is ∙ c.requires.facet) in
    let noted = still_all_noted v w f _ c.deref-2.result.now c.remove_facet.ensures.ids (noted_as v f c.len.result c.gather.new.ids.items c.deref-2.result.now c.len.ensures.simplex c.len.ensures.value c.deref-2.ensures.value c.gather.ensures.noted) in
    let left = cells_left (facets_in v) v c.self.inside.counts c.self.invariant.kept f inside w c.remove_facet.ensures.cells in
    let are = put_back_keeps (all_but f (facets_in v)) (λ t. is_simplex t && is_within t f) (cell_at w) (cell_at u) left c.put_back.ensures.cells in
    record {
      kept = (made (all_but f (facets_in v)) u c.lower.new.counts (take_kept (facets_in v) v c.self.inside.counts c.self.invariant.kept f inside w u _ _ c.lower.new.counts noted c.remove_facet.ensures.cells are
          (omega (arith, c.lower.auto.counts, c.self.invariant.kept.sizes)) c.lower.ensures)).kept;
      ready = subst (λ r. IsRoomOf r (cell_at u)) (sym (ap (λ (l : LatticeState). l.room) c.self.view_is ∙ c.requires.room)) (no_room (cell_at u));
      wide = omega (arith, c.self.invariant.wide, c.gather.ensures.capacity);
      needed = for_same v w u c.self.inside.members.items f c.self.invariant.needed c.remove_facet.ensures.cells c.put_back.ensures.cells;
    }

pub returns-clause-facets : goal.returns-clause-facets
returns-clause-facets g c =
    let f = c.args.f.now in
    let v = c.self.inside.slab in
    let w = c.remove_facet.new.slab in
    let u = c.put_back.new.slab in
    let inside = member (facets_in v) f (ap (λ (l : LatticeState). stands_in l.facets f) c.self.view_is ∙ c.requires.facet) in
    let noted = still_all_noted v w f _ c.deref-2.result.now c.remove_facet.ensures.ids (noted_as v f c.len.result c.gather.new.ids.items c.deref-2.result.now c.len.ensures.simplex c.len.ensures.value c.deref-2.ensures.value c.gather.ensures.noted) in
    let left = cells_left (facets_in v) v c.self.inside.counts c.self.invariant.kept f inside w c.remove_facet.ensures.cells in
    let are = put_back_keeps (all_but f (facets_in v)) (λ t. is_simplex t && is_within t f) (cell_at w) (cell_at u) left c.put_back.ensures.cells in
    (made (all_but f (facets_in v)) u c.lower.new.counts (take_kept (facets_in v) v c.self.inside.counts c.self.invariant.kept f inside w u _ _ c.lower.new.counts noted c.remove_facet.ensures.cells are
    (omega (arith, c.lower.auto.counts, c.self.invariant.kept.sizes)) c.lower.ensures)).facets
    ∙ ap (λ (l : LatticeState). all_but f l.facets) c.self.view_is

pub returns-clause-holds : goal.returns-clause-holds
returns-clause-holds g c =
    let f = c.args.f.now in
    let v = c.self.inside.slab in
    let w = c.remove_facet.new.slab in
    let u = c.put_back.new.slab in
    let inside = member (facets_in v) f (ap (λ (l : LatticeState). stands_in l.facets f) c.self.view_is ∙ c.requires.facet) in
    let noted = still_all_noted v w f _ c.deref-2.result.now c.remove_facet.ensures.ids (noted_as v f c.len.result c.gather.new.ids.items c.deref-2.result.now c.len.ensures.simplex c.len.ensures.value c.deref-2.ensures.value c.gather.ensures.noted) in
    let left = cells_left (facets_in v) v c.self.inside.counts c.self.invariant.kept f inside w c.remove_facet.ensures.cells in
    let are = put_back_keeps (all_but f (facets_in v)) (λ t. is_simplex t && is_within t f) (cell_at w) (cell_at u) left c.put_back.ensures.cells in
    holds_less c.args.self.now v w u _ _ (all_but f (facets_in v)) _ f (ap (λ (l : LatticeState). l.ids) (sym c.self.view_is)) (ap (λ (l : LatticeState). l.askers) (sym c.self.view_is)) c.remove_facet.ensures.ids.ids (asked_after_less v w f c.remove_facet.ensures.cells) c.put_back.ensures.lasts c.put_back.ensures.cells are
    ((made (all_but f (facets_in v)) u c.lower.new.counts (take_kept (facets_in v) v c.self.inside.counts c.self.invariant.kept f inside w u _ _ c.lower.new.counts noted c.remove_facet.ensures.cells are
    (omega (arith, c.lower.auto.counts, c.self.invariant.kept.sizes)) c.lower.ensures)).facets)

pub gather-requires-clause-found : goal.gather-requires-clause-found
gather-requires-clause-found g c =
    part_found c.args.self.now c.self.inside.slab c.args.outer.now c.args.place c.args.f.now _ c.args.ids.now c.requires.part (place_is c.args.outer.now c.args.place c.requires.outer c.requires.part.below) c.len.ensures.simplex
    (ap (λ (l : LatticeState). l.ids) (sym c.self.view_is)) c.requires.noted

pub gather-requires-clause-some : goal.gather-requires-clause-some
gather-requires-clause-some g c =
    let p = place_is c.args.outer.now c.args.place c.requires.outer c.requires.part.below in
    omega (arith, p, pow_pos c.args.place)
