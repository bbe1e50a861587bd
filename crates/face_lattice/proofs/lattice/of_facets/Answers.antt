use Rattle.std.proofs.Common.{[], cond, take, ap, ◌∙◌}
use Rattle.std.specs.List.{list_any}
use Rattle.simplex.specs.InOrder.{put}
use Rattle.simplex.specs.Simplex.{is_within, simplex_cmp}
use Rattle.facet_set.specs.Complex.{is_face, stands_in}
use Rattle.face_lattice.specs.Lattice.{all_but}
use Rattle.face_lattice.proofs.FrontLaws.{front_new, front_above, front_more}
use Rattle.face_lattice.proofs.lattice.of_facets.Goals as goal

pub insert_facet-requires-clause-new : goal.insert_facet-requires-clause-new
insert_facet-requires-clause-new g c =
    let fs = c.args.facets.now in
    let f = c.f-item.result in
    ap (λ x. is_face x f) c.loop-f.invariant.facets ∙ ap (is_face (take c.loop-f.f-index fs)) c.f-item.is ∙ front_new fs c.loop-f.f-index f c.requires.complex c.loop-f-test.true

pub insert_facet-requires-clause-above : goal.insert_facet-requires-clause-above
insert_facet-requires-clause-above g c =
    let fs = c.args.facets.now in
    let f = c.f-item.result in
    ap (list_any (λ s. is_within s f)) c.loop-f.invariant.facets ∙ ap (λ t. list_any (λ s. is_within s t) (take c.loop-f.f-index fs)) c.f-item.is ∙ front_above fs c.loop-f.f-index f c.requires.complex c.loop-f-test.true

pub loop-f-preserved : goal.loop-f-preserved
loop-f-preserved g c =
    let fs = c.args.facets.now in
    let f = c.f-item.result in
    record {
      facets = c.in_ok-insert_facet.ensures.facets ∙ (λ j. put simplex_cmp (c.f-item.is j) (c.loop-f.invariant.facets j)) ∙ front_more fs c.loop-f.f-index f c.requires.complex c.loop-f-test.true;
      room = c.insert_facet.ensures.room ∙ ap (λ r. cond (stands_in r f) (all_but f r) []) c.loop-f.invariant.room;
    }
