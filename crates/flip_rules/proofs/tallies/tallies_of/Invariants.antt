use Rattle.std.proofs.Common.{take}
use Rattle.flip_rules.specs.Tallies.{AreTalliesOf}
use Rattle.flip_rules.proofs.tallies.tallies_of.Given as goal

abbrev pub invariant-loop-facet : goal.invariant-loop-facet
invariant-loop-facet l = AreTalliesOf (take l.facet-index l.facets) l.sizes l.tallies
