use Rattle.script_text.proofs.CommandLaws.{reads_the_spelled_lem}
use Rattle.script_text.proofs.laws.reads_the_spelled.Goals as goal

pub returns : goal.returns
returns c = reads_the_spelled_lem
