use Rattle.flip_certificate.proofs.FirstLaws.{first_difference_lem}
use Rattle.flip_certificate.proofs.laws.first_difference.Goals as goal

pub returns : goal.returns
returns c = first_difference_lem
