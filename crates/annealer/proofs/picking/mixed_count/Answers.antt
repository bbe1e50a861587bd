use Rattle.annealer.proofs.PickLaws.{count_next, count_few}
use Rattle.annealer.proofs.picking.mixed_count.Goals as goal

pub loop-class-preserved : goal.loop-class-preserved
loop-class-preserved c = record {
  sum = count_next c.args.session.now.present c.args.facet_size c.loop-class.class c.loop-class.count c.count_of_mixing-count.result _ c.loop-class-test.true c.count_of_mixing-count.ensures.value c.loop-class.invariant.sum;
  few = count_few c.loop-class.class c.loop-class.count c.count_of_mixing-count.result c.loop-class.invariant.few c.count_of_mixing-count.ensures.bound;
}
