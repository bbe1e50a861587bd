use Rattle.std.proofs.Common.{◌≡◌, map}
use Rattle.std.specs.List.{range_with_len}
use Rattle.face_vectors.specs.Vectors.{h_of}
use Rattle.face_vectors.specs.Counts.{numbers}
use Rattle.face_vectors.specs.Row.{entries}
use Rattle.face_vectors.proofs.vectors.h.Given as goal

abbrev pub invariant-loop-k : goal.invariant-loop-k
invariant-loop-k l = record {
  value : entries l.row ≡ map (h_of (numbers l.c)) (range_with_len 0 l.k);
  len : l.row.len ≡ l.k;
}
