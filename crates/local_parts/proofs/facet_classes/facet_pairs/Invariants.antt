use Rattle.std.proofs.Common.{nat_eq, take}
use Rattle.std.specs.HashMap.{get}
use Rattle.std.specs.Cmp.Lexicographic.{pointwise}
use Rattle.local_parts.proofs.StrongLaws.{Ties}
use Rattle.local_parts.proofs.facet_classes.facet_pairs.Given as goal

abbrev pub invariant-loop-place : goal.invariant-loop-place
invariant-loop-place l = Ties (get (pointwise nat_eq) l.firsts) (take l.place-index l.places) l.pairs.items
