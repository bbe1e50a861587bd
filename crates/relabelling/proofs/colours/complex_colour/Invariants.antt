use Rattle.std.proofs.Common.{◌≡◌, take}
use Rattle.relabelling.specs.Colours.{colour, capped, facet_colour, total}
use Rattle.relabelling.proofs.colours.complex_colour.Given as goal

abbrev pub invariant-loop-facet : goal.invariant-loop-facet
invariant-loop-facet l = l.sum ≡ capped (total (facet_colour (colour l.colours)) (take l.facet-index l.facets))
