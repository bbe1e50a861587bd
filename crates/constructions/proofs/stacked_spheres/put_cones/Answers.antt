use Rattle.constructions.proofs.StackedLaws.{cones_none, cone_fits, cones_more}
use Rattle.constructions.proofs.stacked_spheres.put_cones.Goals as goal

pub loop-old-init : goal.loop-old-init
loop-old-init g c = record {
  value = cones_none _ c.requires.rising;
  rising = c.requires.rising;
}

pub with_last-requires : goal.with_last-requires
with_last-requires g c =
    cone_fits c.args.base.now c.labels-old-items.result.now c.without.result c.loop-old.old-index c.args.label c.labels-old-items.ensures.value c.labels-old-items.ensures.simplex c.loop-old-test.true
    c.requires.labels c.requires.limit c.without.ensures.value c.without.ensures.simplex

pub loop-old-preserved : goal.loop-old-preserved
loop-old-preserved g c = record {
  value =
      cones_more c.args.base.now c.labels-old-items.result.now c.loop-old.old-index c.args.label _ _ _ c.without.result c.with_last.result c.labels-old-items.ensures.value c.loop-old-test.true c.loop-old.invariant.value
      c.without.ensures.value c.with_last.ensures c.in_ok-put_in.ensures.value;
  rising = c.in_ok-put_in.ensures.rising;
}
