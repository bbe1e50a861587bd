use Rattle.simplex.proofs.FaultLaws.{faultless_simplex}
use Rattle.simplex.proofs.laws.faultless_is_simplex.Goals as goal

pub returns : goal.returns
returns c = faultless_simplex
