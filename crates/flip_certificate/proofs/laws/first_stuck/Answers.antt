use Rattle.flip_certificate.proofs.FirstLaws.{first_stuck_lem}
use Rattle.flip_certificate.proofs.laws.first_stuck.Goals as goal

pub returns : goal.returns
returns c = first_stuck_lem
