use Rattle.flip_plans.proofs.FollowLaws.{askers_follow_lem}
use Rattle.flip_plans.proofs.laws.askers_follow.Goals as goal

pub returns : goal.returns
returns c = askers_follow_lem
