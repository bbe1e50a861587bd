use Rattle.invariants.proofs.Steps.{difference_tells_apart_lem}
use Rattle.invariants.proofs.laws.difference_tells_apart.Goals as goal

pub returns : goal.returns
returns c = difference_tells_apart_lem
