use Rattle.std.proofs.Common.{◌≡◌, ◌*◌, ◌-◌, ◌^◌, drop}
use Rattle.face_vectors.specs.Vectors.{alternating}
use Rattle.face_vectors.specs.Counts.{numbers}
use Rattle.face_vectors.specs.Magnitude.{IsWithin}
use Rattle.face_vectors.proofs.vectors.euler.Given as goal

abbrev pub invariant-loop-k : goal.invariant-loop-k
invariant-loop-k l = record {
  value : l.sum ≡ alternating (drop l.k (numbers l.c));
  small : IsWithin (2 ^ 31 * (l.c.size - l.k)) l.sum;
}
