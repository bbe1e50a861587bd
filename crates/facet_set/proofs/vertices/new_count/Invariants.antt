use Rattle.std.proofs.Common.{◌≡◌, ◌≤◌, ◌+◌, length, drop}
use Rattle.facet_set.proofs.VertexLaws.{new_labels}
use Rattle.facet_set.proofs.vertices.new_count.Given as goal

abbrev pub invariant-loop-label : goal.invariant-loop-label
invariant-loop-label l = record { value : l.count + length (new_labels l.earlier (drop l.label-index l.s)) ≡ length (new_labels l.earlier l.s); bound : l.count ≤ l.label-index }
