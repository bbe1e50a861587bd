use Rattle.invariants.proofs.Steps.{steps_keep_invariants_lem}
use Rattle.invariants.proofs.laws.steps_keep_invariants.Goals as goal

pub returns : goal.returns
returns c = steps_keep_invariants_lem
