use Rattle.replay_report.proofs.TranscriptLaws.{spelled_is_one}
use Rattle.replay_report.proofs.laws.spelled_is_one_part.Goals as goal

pub returns : goal.returns
returns c = spelled_is_one
