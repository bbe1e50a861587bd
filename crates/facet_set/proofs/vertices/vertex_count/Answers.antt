use Rattle.std.proofs.Common.{arith}
use Rattle.simplex.proofs.Filled.{rising_of}
use Rattle.facet_set.proofs.VertexLaws.{count_more}
use Rattle.facet_set.proofs.vertices.vertex_count.Goals as goal

pub loop-i-preserved : goal.loop-i-preserved
loop-i-preserved c = record {
  value =
      count_more c.args.simplices.now c.loop-i.i c.index-simplices-i.result c.loop-i.count c.new_count-count.result c.loop-i-test.true c.index-simplices-i.is
      (rising_of c.index-simplices-i.result c.new_count-count.ensures.simplex) c.loop-i.invariant.value c.new_count-count.ensures.value;
  bound = omega (arith, c.loop-i.invariant.bound, c.new_count-count.ensures.bound);
}
