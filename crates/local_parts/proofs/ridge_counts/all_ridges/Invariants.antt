use Rattle.std.proofs.Common.{◌≡◌, take}
use Rattle.local_parts.specs.Pieces.{all_ridges}
use Rattle.local_parts.proofs.ridge_counts.all_ridges.Given as goal

abbrev pub invariant-loop-facet : goal.invariant-loop-facet
invariant-loop-facet l = l.list.items ≡ all_ridges (take l.facet-index l.facets)
