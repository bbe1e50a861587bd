use Rattle.std.proofs.Common.{◌≡◌, ℕ, take}
use Rattle.relabelling.specs.Colours.{colour, capped, share, total}
use Rattle.relabelling.proofs.colours.next_colours.Given as goal

abbrev pub invariant-loop-facet : goal.invariant-loop-facet
invariant-loop-facet l = (a : ℕ) → colour l.next a ≡ capped (total (λ s. share (colour l.colours) s a) (take l.facet-index l.facets))
