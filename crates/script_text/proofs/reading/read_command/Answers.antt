use Rattle.std.proofs.Common.{ap, is_some}
use Rattle.script_text.proofs.CommandLaws.{reads_the_spelled_lem, none_found}
use Rattle.script_text.proofs.reading.read_command.Goals as goal

pub returns-in-Ok-Some-clause-exact : goal.returns-in-Ok-Some-clause-exact
returns-in-Ok-Some-clause-exact c = (reads_the_spelled_lem c.args.bytes.now c.in-Ok-Some.command).1 (rw c.in-Ok-Some.field-0-is at c.in-Ok-Some.ensures.some)

pub returns-in-Ok-None-clause-syntax : goal.returns-in-Ok-None-clause-syntax
returns-in-Ok-None-clause-syntax c e = none_found c.args.bytes.now (c.in-Ok-None.ensures.none (ap is_some c.in-Ok-None.field-0-is))
