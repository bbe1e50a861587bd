use Rattle.flip_certificate.proofs.EndsLaws.{none_begins}
use Rattle.flip_certificate.proofs.laws.none_begins_another.Goals as goal

pub returns : goal.returns
returns c = none_begins
