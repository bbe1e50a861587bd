use Rattle.flip_plans.proofs.TurnLaws.{faces_in_join_lem}
use Rattle.flip_plans.proofs.laws.faces_in_join.Goals as goal

pub returns : goal.returns
returns c = faces_in_join_lem
