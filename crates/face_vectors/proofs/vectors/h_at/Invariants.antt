use Rattle.std.proofs.Common.{◌≡◌, ◌*◌, ◌^◌, map}
use Rattle.std.specs.List.{range_with_len}
use Rattle.face_vectors.specs.Vectors.{sum_ℤ, h_term}
use Rattle.face_vectors.specs.Counts.{numbers}
use Rattle.face_vectors.specs.Magnitude.{IsWithin}
use Rattle.face_vectors.proofs.vectors.h_at.Given as goal

abbrev pub invariant-loop-i : goal.invariant-loop-i
invariant-loop-i l = record {
  value : l.sum ≡ sum_ℤ (map (h_term (numbers l.c) l.k) (range_with_len 0 l.i));
  small : IsWithin (2 ^ 43 * l.i) l.sum;
}
