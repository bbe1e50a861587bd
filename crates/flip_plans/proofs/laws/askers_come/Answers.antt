use Rattle.flip_plans.proofs.AskerLaws.{askers_come_lem}
use Rattle.flip_plans.proofs.laws.askers_come.Goals as goal

pub returns : goal.returns
returns c = askers_come_lem
