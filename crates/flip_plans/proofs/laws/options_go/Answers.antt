use Rattle.flip_plans.proofs.AskerLaws.{options_go_lem}
use Rattle.flip_plans.proofs.laws.options_go.Goals as goal

pub returns : goal.returns
returns c = options_go_lem
