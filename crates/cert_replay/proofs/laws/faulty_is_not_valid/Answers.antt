use Rattle.flip_certificate.proofs.ValidLaws.{valid_is}
use Rattle.cert_replay.specs.Faults.{replay_faults}
use Rattle.cert_replay.proofs.laws.faulty_is_not_valid.Goals as goal

pub returns : goal.returns
returns c = valid_is replay_faults
