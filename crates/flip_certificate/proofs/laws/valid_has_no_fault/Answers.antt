use Rattle.flip_certificate.proofs.ValidLaws.{valid_is}
use Rattle.flip_certificate.proofs.laws.valid_has_no_fault.Goals as goal

pub returns : goal.returns
returns c faults = valid_is faults
