use Rattle.flip_plans.proofs.AskerLaws.{askers_stay_lem}
use Rattle.flip_plans.proofs.laws.askers_stay.Goals as goal

pub returns : goal.returns
returns c = askers_stay_lem
