use Rattle.std.proofs.Common.{◌≡◌, length, map, take}
use Rattle.std.specs.List.{range_with_len}
use Rattle.facet_set.specs.Numbers.{face_count}
use Rattle.invariants.proofs.face_counts.counts_by.Given as goal

abbrev pub invariant-loop-k : goal.invariant-loop-k
invariant-loop-k l = record {
  value : take l.k l.at ≡ map (face_count l.c) (range_with_len 1 l.k);
  whole : length l.at ≡ 12;
}
