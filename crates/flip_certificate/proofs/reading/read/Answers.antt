use Rattle.flip_certificate.proofs.ReaderLaws.{form_clause, none_clause, spelled_clause}
use Rattle.flip_certificate.proofs.reading.read.Goals as goal

pub returns-clause-spelled : goal.returns-clause-spelled
returns-clause-spelled c = spelled_clause c.args.bytes.now c.read_lines.result c.read_lines.ensures.value

pub returns-clause-form : goal.returns-clause-form
returns-clause-form c = form_clause c.args.bytes.now c.read_lines.result c.read_lines.ensures.faults

pub returns-clause-no_certificate : goal.returns-clause-no_certificate
returns-clause-no_certificate c = none_clause c.args.bytes.now c.read_lines.result c.read_lines.ensures.faults
