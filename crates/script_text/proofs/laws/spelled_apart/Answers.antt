use Rattle.script_text.proofs.CommandLaws.{spelled_apart_lem}
use Rattle.script_text.proofs.laws.spelled_apart.Goals as goal

pub returns : goal.returns
returns c = spelled_apart_lem
