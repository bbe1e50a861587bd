use Rattle.replay_report.proofs.TranscriptLaws.{certificates_are}
use Rattle.replay_report.proofs.laws.certificates_are_the_parts.Goals as goal

pub returns : goal.returns
returns c = certificates_are
