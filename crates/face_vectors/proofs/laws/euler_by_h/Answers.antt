use Rattle.face_vectors.proofs.SumLaws.{euler_by_h}
use Rattle.face_vectors.proofs.laws.euler_by_h.Goals as goal

pub returns : goal.returns
returns c = euler_by_h
