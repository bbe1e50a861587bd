use Rattle.flip_plans.proofs.AskerLaws.{options_by_faces_lem, options_put_links_in_lem}
use Rattle.flip_plans.proofs.PlanLaws.{option_faces_lem}
use Rattle.flip_plans.proofs.laws.options_by_faces.Goals as goal

pub returns : goal.returns
returns c = record { all = options_by_faces_lem; members = option_faces_lem; links = options_put_links_in_lem }
