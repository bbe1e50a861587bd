use Rattle.invariants.proofs.Steps.{reason_is_no_dimension_lem}
use Rattle.invariants.proofs.laws.reason_is_no_dimension.Goals as goal

pub returns : goal.returns
returns c = reason_is_no_dimension_lem
