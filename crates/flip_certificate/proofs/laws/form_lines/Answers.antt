use Rattle.flip_certificate.proofs.ReadingLaws.{form_lines_lem}
use Rattle.flip_certificate.proofs.laws.form_lines.Goals as goal

pub returns : goal.returns
returns c = form_lines_lem
