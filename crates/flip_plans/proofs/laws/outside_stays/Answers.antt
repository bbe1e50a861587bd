use Rattle.flip_plans.proofs.TurnLaws.{outside_stays_lem}
use Rattle.flip_plans.proofs.laws.outside_stays.Goals as goal

pub returns : goal.returns
returns c = outside_stays_lem
