use Rattle.flip_plans.proofs.AskerLaws.{options_come_lem}
use Rattle.flip_plans.proofs.laws.options_come.Goals as goal

pub returns : goal.returns
returns c = options_come_lem
