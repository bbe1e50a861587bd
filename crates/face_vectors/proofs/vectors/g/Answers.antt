use Rattle.std.proofs.Common.{arith}
use Rattle.std.proofs.lemmas.Int.{ints}
use Rattle.face_vectors.specs.Vectors.{g_of}
use Rattle.face_vectors.specs.Counts.{numbers}
use Rattle.face_vectors.specs.Row.{entries}
use Rattle.face_vectors.proofs.VectorLaws.{entries_more}
use Rattle.face_vectors.proofs.vectors.g.Goals as goal

pub loop-k-preserved : goal.loop-k-preserved
loop-k-preserved c = record {
  value = entries_more (g_of (numbers c.args.c.now)) (entries c.loop-k.row) (entries c.push.new.self) c.loop-k.k _ c.push.ensures.value c.loop-k.invariant.value (omega (arith, ints, c.g_at.ensures));
  len = omega arith;
}
