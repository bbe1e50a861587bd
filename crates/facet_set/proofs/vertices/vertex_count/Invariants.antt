use Rattle.std.proofs.Common.{◌≡◌, ◌≤◌, ◌*◌, length, take}
use Rattle.facet_set.specs.Complex.{verts}
use Rattle.facet_set.proofs.vertices.vertex_count.Given as goal

abbrev pub invariant-loop-i : goal.invariant-loop-i
invariant-loop-i l = record { value : l.count ≡ length (verts (take l.i l.simplices)); bound : l.count ≤ 12 * l.i }
