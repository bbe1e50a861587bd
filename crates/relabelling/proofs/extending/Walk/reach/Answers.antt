use Rattle.std.proofs.Common.{false, refl}
use Rattle.relabelling.specs.declared.extending.Walk.{Walk}
use Rattle.relabelling.proofs.RidgeLaws.{across_label, across_short}
use Rattle.relabelling.proofs.WalkLaws.{reach_new, reach_old, across_reached, now_seen, out_now}
use Rattle.relabelling.proofs.extending.Walk.reach.Goals as goal

pub with_label-facet-requires-clause-short : goal.with_label-facet-requires-clause-short
with_label-facet-requires-clause-short c = across_short c.args.ways.now.c.now c.args.ridge.now c.args.label c.requires.ways.simplices c.requires.ends.0

pub with_label-facet-requires-clause-label : goal.with_label-facet-requires-clause-label
with_label-facet-requires-clause-label c = across_label c.args.ways.now.c.now c.args.ridge.now c.args.next c.requires.ways.simplices c.requires.ends.1

pub returns-then-not-branch-clause-goes_on : goal.returns-then-not-branch-clause-goes_on
returns-then-not-branch-clause-goes_on c =
    let n : Walk = record { images = c.args.self.now.images; seen = c.insert.new.self; waiting = c.args.self.now.waiting; fits = c.args.self.now.fits } in
    reach_old c.args.ways.now.c.now c.args.ways.now.d.now c.args.self.now n c.with_label-facet.result c.in_ok-insert.field-0 refl refl refl c.in_ok-insert.ensures.added c.if-not-branch.true (now_seen c.args.self.now n c.with_label-facet.result c.in_ok-insert.ensures.updates.0)

pub returns-then-not-branch-clause-reaches : goal.returns-then-not-branch-clause-reaches
returns-then-not-branch-clause-reaches c = λ u i e j.
    let n : Walk = record { images = c.args.self.now.images; seen = c.insert.new.self; waiting = c.args.self.now.waiting; fits = c.args.self.now.fits } in
    across_reached c.args.ways.now.c.now c.args.ways.now.d.now c.args.ways.now.c_ends c.args.ways.now.d_ends n c.args.ridge.now c.with_label-facet.result u c.args.next c.requires.ways c.with_label-facet.ensures
    (out_now c.args.self.now n c.with_label-facet.result (now_seen c.args.self.now n c.with_label-facet.result c.in_ok-insert.ensures.updates.0)) i e j

pub returns-clause-goes_on : goal.returns-clause-goes_on
returns-clause-goes_on c =
    let n : Walk = record { images = c.give_image.new.images; seen = c.insert.new.self; waiting = c.push.new.self; fits = c.both-self.result } in
    reach_new c.args.ways.now.c.now c.args.ways.now.d.now c.args.ways.now.c_ends c.args.ways.now.d_ends c.args.self.now n c.args.ridge.now c.with_label-facet.result c.args.label c.args.next c.in_ok-insert.field-0 c.in_ok-fits.fits c.requires.ways c.requires.ends c.requires.known
    c.in_ok-fits.ensures.extends c.in_ok-fits.ensures.known c.with_label-facet.ensures (now_seen c.args.self.now n c.with_label-facet.result c.in_ok-insert.ensures.updates.0) c.in_ok-push.ensures.items c.in_ok-insert.ensures.added c.if-not-branch.false c.both-self.ensures c.in_ok-fits.ensures.apart

pub returns-clause-reaches : goal.returns-clause-reaches
returns-clause-reaches c = λ u i e j.
    let n : Walk = record { images = c.give_image.new.images; seen = c.insert.new.self; waiting = c.push.new.self; fits = c.both-self.result } in
    across_reached c.args.ways.now.c.now c.args.ways.now.d.now c.args.ways.now.c_ends c.args.ways.now.d_ends n c.args.ridge.now c.with_label-facet.result u c.args.next c.requires.ways c.with_label-facet.ensures
    (out_now c.args.self.now n c.with_label-facet.result (now_seen c.args.self.now n c.with_label-facet.result c.in_ok-insert.ensures.updates.0)) i e j
