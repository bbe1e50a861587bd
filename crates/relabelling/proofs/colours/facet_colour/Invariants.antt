use Rattle.std.proofs.Common.{◌≡◌, take}
use Rattle.relabelling.specs.Colours.{colour, capped, mix, total}
use Rattle.relabelling.proofs.colours.facet_colour.Given as goal

abbrev pub invariant-loop-label : goal.invariant-loop-label
invariant-loop-label l = l.sum ≡ capped (total (λ a. mix (colour l.colours a)) (take l.label-index l.facet))
