use Rattle.betti_tables.proofs.BoundaryLaws.{ranks_fit_lem}
use Rattle.betti_tables.proofs.laws.ranks_fit.Goals as goal

pub returns : goal.returns
returns c = ranks_fit_lem
