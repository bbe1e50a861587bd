use Rattle.std.proofs.Common.{◌≡◌, take, drop}
use Rattle.script_shell.specs.Answering.{comment_after, in_front}
use Rattle.script_shell.specs.Transcript.{cut_from}
use Rattle.script_shell.proofs.transcript.piece_end.Given as goal

abbrev pub invariant-loop-at : goal.invariant-loop-at
invariant-loop-at l = record {
  cut : in_front (take l.at l.bytes) (cut_from l.comment (drop l.at l.bytes)) ≡ cut_from l.initial.comment l.bytes;
  after : comment_after l.comment (drop l.at l.bytes) ≡ comment_after l.initial.comment l.bytes;
}
