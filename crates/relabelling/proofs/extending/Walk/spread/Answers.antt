use Rattle.std.proofs.Common.{List, ℕ, get_or, subst}
use Rattle.simplex.specs.Members.{In}
use Rattle.simplex.proofs.Members.{none}
use Rattle.facet_set.proofs.SetLaws.{in_place}
use Rattle.relabelling.proofs.WalkLaws.{all_reached, goes_itself, goes_further, reaches_more, stays_known}
use Rattle.relabelling.proofs.extending.Walk.spread.Goals as goal

pub loop-label-init : goal.loop-label-init
loop-label-init c = record { goes_on = goes_itself c.args.ways.now.c.now c.args.ways.now.d.now c.args.self.now; reaches = λ a i. absurd (none a i) }

pub cross-requires-clause-seen : goal.cross-requires-clause-seen
cross-requires-clause-seen c = c.loop-label.invariant.goes_on.seen c.args.facet.now c.requires.seen

pub cross-requires-clause-label : goal.cross-requires-clause-label
cross-requires-clause-label c =
    subst (λ (l : List ℕ). In (get_or c.labels-label-items.result.now c.loop-label.label-index 0) l) c.labels-label-items.ensures.value (in_place c.labels-label-items.result.now c.loop-label.label-index 0 c.loop-label-test.true)

pub cross-requires-clause-known : goal.cross-requires-clause-known
cross-requires-clause-known c = λ a i. stays_known c.args.ways.now.c.now c.args.ways.now.d.now c.args.self.now.images c.loop-label.self.images a c.loop-label.invariant.goes_on.images (c.requires.known a i)

pub cross-requires-clause-labels : goal.cross-requires-clause-labels
cross-requires-clause-labels c = c.loop-label.invariant.goes_on.images.labels c.requires.labels

pub loop-label-preserved : goal.loop-label-preserved
loop-label-preserved c = record {
  goes_on = goes_further c.args.ways.now.c.now c.args.ways.now.d.now c.args.self.now c.loop-label.self c.cross.new.self c.loop-label.invariant.goes_on c.in_ok-cross.ensures.goes_on;
  reaches = reaches_more c.args.ways.now.c.now c.args.ways.now.d.now c.loop-label.self c.cross.new.self c.args.facet.now c.labels-label-items.result.now c.loop-label.label-index c.loop-label-test.true c.in_ok-cross.ensures.goes_on c.loop-label.invariant.reaches c.in_ok-cross.ensures.reaches;
}

pub returns-clause-reaches : goal.returns-clause-reaches
returns-clause-reaches c =
    all_reached c.args.ways.now.c.now c.args.ways.now.d.now c.args.ways.now.c_ends c.args.ways.now.d_ends c.loop-label.self c.args.facet.now c.labels-label-items.result.now c.loop-label.label-index c.requires.ways c.requires.facet c.labels-label-items.ensures.value c.loop-label-test.false
    c.loop-label.invariant.reaches
