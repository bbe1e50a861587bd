use Rattle.face_vectors.proofs.SumLaws.{h_sum}
use Rattle.face_vectors.proofs.laws.h_sums_to_top.Goals as goal

pub returns : goal.returns
returns c = h_sum
