use Rattle.flip_certificate.proofs.ReadingLaws.{reads_the_spelled_lem}
use Rattle.flip_certificate.proofs.laws.reads_the_spelled.Goals as goal

pub returns : goal.returns
returns c = reads_the_spelled_lem
