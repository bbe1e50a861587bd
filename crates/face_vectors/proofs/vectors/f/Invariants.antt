use Rattle.std.proofs.Common.{◌≡◌, map, pos, take}
use Rattle.face_vectors.specs.Row.{entries}
use Rattle.face_vectors.proofs.vectors.f.Given as goal

abbrev pub invariant-loop-count : goal.invariant-loop-count
invariant-loop-count l = record {
  value : entries l.row ≡ map pos (take l.count-index l.count-items);
  len : l.row.len ≡ l.count-index;
}
