use Rattle.std.proofs.Common.{arith}
use Rattle.std.proofs.lemmas.Int.{ints}
use Rattle.face_vectors.specs.Vectors.{h_term}
use Rattle.face_vectors.specs.Counts.{numbers}
use Rattle.face_vectors.proofs.VectorLaws.{sum_more}
use Rattle.face_vectors.proofs.vectors.h_at.Goals as goal

pub loop-i-preserved : goal.loop-i-preserved
loop-i-preserved c = record {
  value = omega (arith, ints, sum_more (h_term (numbers c.args.c.now) c.args.k) c.loop-i.i);
  small = (omega (arith, ints), omega (arith, ints));
}
