use Rattle.flip_certificate.proofs.ReadingLaws.{one_certificate_lem}
use Rattle.flip_certificate.proofs.laws.one_certificate.Goals as goal

pub returns : goal.returns
returns c = one_certificate_lem
