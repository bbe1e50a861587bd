use Rattle.std.proofs.Common.{◌≡◌, ◌++◌, map, take}
use Rattle.local_parts.specs.Pairs.{place}
use Rattle.local_parts.proofs.vertex_classes.add_pairs_with.Given as goal

abbrev pub invariant-loop-label : goal.invariant-loop-label
invariant-loop-label l = l.pairs.items ≡ l.fn.pairs.items ++ map (λ a. (l.first, place l.vertices a)) (take l.label-index l.labels)
