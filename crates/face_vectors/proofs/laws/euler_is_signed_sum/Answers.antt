use Rattle.std.proofs.Common.{pos, length, get_or, ◌∙◌, sym}
use Rattle.face_vectors.specs.Vectors.{signed}
use Rattle.face_vectors.proofs.SumLaws.{alternating_is, total_is}
use Rattle.face_vectors.proofs.laws.euler_is_signed_sum.Goals as goal

pub returns : goal.returns
returns c = λ fs. sym (total_is (λ k. signed k (pos (get_or fs k 0))) (length fs) ∙ alternating_is fs)
