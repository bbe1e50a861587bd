-- The faults of a certificate that is not valid.
use Rattle.flip_certificate.specs.Valid.{Faults}
use Rattle.cert_replay.specs.declared.replay_fault.ReplayFault.{ReplayFault}
use Rattle.cert_replay.specs.declared.replay_fault.ReplayFault.TheVariants.{Start, Flip, Map, Links, End}

abbrev pub replay_faults : Faults ReplayFault
replay_faults = record { at_start = Start; at_flip = Flip; at_map = Map; at_block = Links; at_end = End }
