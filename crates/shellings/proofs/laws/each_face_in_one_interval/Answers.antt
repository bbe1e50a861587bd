use Rattle.shellings.proofs.IntervalLaws.{each_face_lem}
use Rattle.shellings.proofs.laws.each_face_in_one_interval.Goals as goal

pub returns : goal.returns
returns c = each_face_lem
