use Rattle.flip_plans.proofs.AskerLaws.{askers_go_lem}
use Rattle.flip_plans.proofs.laws.askers_go.Goals as goal

pub returns : goal.returns
returns c = askers_go_lem
