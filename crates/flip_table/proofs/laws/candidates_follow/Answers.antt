use Rattle.flip_table.proofs.FollowingLaws.{candidates_follow_lem}
use Rattle.flip_table.proofs.laws.candidates_follow.Goals as goal

pub returns : goal.returns
returns c = candidates_follow_lem
