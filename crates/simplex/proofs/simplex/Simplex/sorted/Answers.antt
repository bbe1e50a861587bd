use Rattle.simplex.proofs.FaultLaws.{filled_cells, set_cells, simplex_cells}
use Rattle.simplex.proofs.simplex.Simplex.sorted.Goals as goal

pub invariant_of-result : goal.invariant_of-result
invariant_of-result c = filled_cells c.args.labels.now c.fill.new.cells c.requires.short c.requires.clean c.fill.ensures.permutation c.fill.ensures.sorted

pub returns-clause-value : goal.returns-clause-value
returns-clause-value c = set_cells c.args.labels.now c.fill.new.cells c.requires.clean c.fill.ensures.permutation c.fill.ensures.sorted

pub returns-clause-simplex : goal.returns-clause-simplex
returns-clause-simplex c = simplex_cells c.args.labels.now c.fill.new.cells c.requires.short c.requires.clean c.fill.ensures.permutation c.fill.ensures.sorted
