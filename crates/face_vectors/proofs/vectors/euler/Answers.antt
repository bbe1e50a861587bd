use Rattle.std.proofs.Common.{◌≤◌, ◌<◌, ◌-◌, ◌^◌, length, get_or, arith}
use Rattle.std.proofs.lemmas.Int.{ints}
use Rattle.face_vectors.proofs.VectorLaws.{alternating-drop, number_at}
use Rattle.face_vectors.proofs.vectors.euler.Goals as goal

pub loop-k-preserved : goal.loop-k-preserved
loop-k-preserved c =
    let size = c.args.c.now.size in
    let at = c.args.c.now.at in
    let whole : size ≤ length at = omega arith in
    let there : c.loop-k.k - 1 < size = omega arith in
    let small : get_or at (c.loop-k.k - 1) 0 ≤ 2 ^ 31 = number_at (λ n. n ≤ 2 ^ 31) size at (c.loop-k.k - 1) there whole c.requires.counts in
    record {
      value = omega (arith, ints, alternating-drop size at c.loop-k.k c.loop-k-test.true c.loop-k.auto.k whole);
      small = (omega (arith, ints), omega (arith, ints));
    }
