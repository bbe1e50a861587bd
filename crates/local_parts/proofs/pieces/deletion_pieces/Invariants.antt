use Rattle.std.proofs.Common.{◌≡◌, take}
use Rattle.std.specs.List.{flat_map}
use Rattle.local_parts.specs.Pieces.{pieces}
use Rattle.local_parts.proofs.pieces.deletion_pieces.Given as goal

abbrev pub invariant-loop-facet : goal.invariant-loop-facet
invariant-loop-facet l = l.list.items ≡ flat_map (pieces l.a) (take l.facet-index l.facets)
