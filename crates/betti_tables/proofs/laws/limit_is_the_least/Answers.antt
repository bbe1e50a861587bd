use Rattle.betti_tables.proofs.LimitLaws.{limit_lem}
use Rattle.betti_tables.proofs.laws.limit_is_the_least.Goals as goal

pub returns : goal.returns
returns c = limit_lem
