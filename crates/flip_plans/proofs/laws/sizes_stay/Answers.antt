use Rattle.flip_plans.proofs.TurnLaws.{sizes_stay_lem}
use Rattle.flip_plans.proofs.laws.sizes_stay.Goals as goal

pub returns : goal.returns
returns c = sizes_stay_lem
