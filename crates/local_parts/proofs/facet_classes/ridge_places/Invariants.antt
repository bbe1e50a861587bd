use Rattle.std.proofs.Common.{◌≡◌, take}
use Rattle.local_parts.specs.Pairs.{ridge_places}
use Rattle.local_parts.proofs.facet_classes.ridge_places.Given as goal

abbrev pub invariant-loop-i : goal.invariant-loop-i
invariant-loop-i l = l.places.items ≡ ridge_places 0 (take l.i l.facets)
