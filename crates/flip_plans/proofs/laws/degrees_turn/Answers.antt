use Rattle.flip_plans.proofs.TurnLaws.{degrees_turn_lem}
use Rattle.flip_plans.proofs.laws.degrees_turn.Goals as goal

pub returns : goal.returns
returns c = degrees_turn_lem
