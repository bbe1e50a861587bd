use Rattle.std.proofs.Common.{◌&&◌, sym, ◌∙◌}
use Rattle.simplex.specs.Simplex.{is_simplex}
use Rattle.simplex.proofs.Decided.{or_left}
use Rattle.simplex.proofs.InOrderLaws.{and_both}
use Rattle.facet_set.specs.Complex.{is_face}
use Rattle.face_lattice.specs.Lattice.{askers_in, id_in, is_held}
use Rattle.flip_plans.proofs.AddLaws.{far_all, far_id, far_none, far_start, far_step}
use Rattle.flip_plans.proofs.steps.add_far.Goals as goal

pub returns-then-not-touches : goal.returns-then-not-touches
returns-then-not-touches c = far_none c.args.l.now.facets c.args.flip.now c.args.s.now c.args.changes.now.items (sym c.touches.ensures ∙ c.if-not-touches.true)

pub loop-asker-init : goal.loop-asker-init
loop-asker-init c = far_start c.args.l.now.facets c.args.flip.now c.args.s.now (id_in c.args.l.now) (askers_in c.args.l.now) c.requires.askers c.args.changes.now.items

pub simplex_of-face-requires : goal.simplex_of-face-requires
simplex_of-face-requires c =
    far_id c.args.l.now.facets c.args.flip.now c.args.s.now (id_in c.args.l.now) (askers_in c.args.l.now) c.requires.askers
    c.askers_of-asker-items.result.now (c.askers_of-asker-items.ensures c.args.s.now c.requires.id) c.loop-asker.asker-index c.loop-asker-test.true

pub loop-asker-preserved : goal.loop-asker-preserved
loop-asker-preserved c =
    far_step c.args.l.now.facets c.args.flip.now c.args.s.now (id_in c.args.l.now) (askers_in c.args.l.now) c.requires.askers
    c.askers_of-asker-items.result.now (c.askers_of-asker-items.ensures c.args.s.now c.requires.id) c.loop-asker.asker-index c.simplex_of-face.result c.loop-asker-test.true c.simplex_of-face.ensures.value
    c.args.facet_len c.within-comes.result c.requires.size c.within-comes.ensures (sym c.touches.ensures ∙ c.if-not-touches.false)
    c.args.changes.now.items c.loop-asker.changes.items c.add_one.new.changes.items c.loop-asker.invariant c.in_ok-add_one.ensures

pub returns : goal.returns
returns c =
    far_all c.args.l.now.facets c.args.flip.now c.args.s.now (id_in c.args.l.now) (askers_in c.args.l.now) c.requires.askers
    c.askers_of-asker-items.result.now (c.askers_of-asker-items.ensures c.args.s.now c.requires.id) c.loop-asker.asker-index c.args.changes.now.items c.loop-asker.changes.items c.loop-asker-test.false
    (λ a sa fa. (c.requires.needed a sa).1 (or_left (is_held c.args.l.now a) _ (or_left (is_simplex a && is_face c.args.l.now.facets a) _ (and_both _ _ sa fa))))
    c.loop-asker.invariant
