use Rattle.std.proofs.Common.{◌≡◌, ◌≤◌, ◌+◌, ◌++◌, ◌||◌, false, length}
use Rattle.script_shell.specs.InVain.{AreInVain}
use Rattle.script_shell.specs.Limits.{standard}
use Rattle.script_shell.specs.Replays.{AreSound, certificates_from}
use Rattle.script_shell.specs.Transcript.{cut_from, replies, refuses, start}
use Rattle.script_shell.proofs.transcript.transcript.Given as goal

abbrev pub invariant-loop-len : goal.invariant-loop-len
invariant-loop-len l = record {
  text : l.session.text ++ replies (record { count = l.session.count; state = l.session.shell.0 }) (cut_from false l.rest).ended (cut_from false l.rest).rest
      ≡ replies start (cut_from false l.bytes).ended (cut_from false l.bytes).rest;
  refusing : (l.session.refusing || refuses (record { count = l.session.count; state = l.session.shell.0 }) (cut_from false l.rest).ended (cut_from false l.rest).rest)
      ≡ refuses start (cut_from false l.bytes).ended (cut_from false l.bytes).rest;
  count : l.session.count + length l.rest ≤ length l.bytes;
  standard : l.session.shell.1 ≡ standard;
  sound : AreSound (certificates_from (record { count = l.session.count; state = l.session.shell.0 }) (cut_from false l.rest).ended)
      → AreSound (certificates_from start (cut_from false l.bytes).ended);
  in_vain : AreInVain (record { count = l.session.count; state = l.session.shell.0 }) (cut_from false l.rest).ended
      → AreInVain start (cut_from false l.bytes).ended;
}

abbrev pub decreases-loop-len : goal.decreases-loop-len
decreases-loop-len l = length l.rest
