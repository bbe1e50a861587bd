use Rattle.std.proofs.Common.{◌≡◌, take}
use Rattle.local_parts.specs.Pairs.{vertex_pairs}
use Rattle.local_parts.proofs.vertex_classes.vertex_pairs.Given as goal

abbrev pub invariant-loop-facet : goal.invariant-loop-facet
invariant-loop-facet l = l.pairs.items ≡ vertex_pairs l.vertices (take l.facet-index l.facets)
