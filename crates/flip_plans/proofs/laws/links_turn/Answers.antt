use Rattle.flip_plans.proofs.TurnLaws.{links_turn_lem}
use Rattle.flip_plans.proofs.laws.links_turn.Goals as goal

pub returns : goal.returns
returns c = links_turn_lem
