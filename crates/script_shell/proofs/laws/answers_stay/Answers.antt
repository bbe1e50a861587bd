use Rattle.script_shell.specs.Transcript.{cut_from, rest_text, start}
use Rattle.script_shell.specs.Answering.{run_after}
use Rattle.std.proofs.Common.{false}
use Rattle.script_shell.proofs.Answering.{answered_more, transcript_is}
use Rattle.script_shell.proofs.laws.answers_stay.Goals as goal

pub returns : goal.returns
returns c = record {
  more = answered_more;
  whole = λ bytes. (rest_text (run_after start (cut_from false bytes).ended) (cut_from false bytes).rest, transcript_is bytes);
}
