use Rattle.std.proofs.Common.{◌≡◌, take}
use Rattle.facet_set.specs.Complex.{facets_with}
use Rattle.collapse_moves.specs.Holders.{holder_of}
use Rattle.collapse_moves.proofs.holder.find_holder.Given as goal

abbrev pub invariant-loop-facet : goal.invariant-loop-facet
invariant-loop-facet l = l.holder ≡ holder_of (facets_with (take l.facet-index l.facets) l.s)
