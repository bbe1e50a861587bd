use Rattle.flip_certificate.proofs.ReadingLaws.{reads_the_spelled_lem}
use Rattle.replay_report.proofs.JudgingLaws.{valid_accepted}
use Rattle.replay_report.proofs.laws.valid_is_accepted.Goals as goal

pub returns : goal.returns
returns c = valid_accepted reads_the_spelled_lem
