use Rattle.std.proofs.Common.{◌≡◌, ◌≤◌, ◌+◌, [], false, length}
use Rattle.script_shell.specs.Answering.{comment_after, pieces_with}
use Rattle.script_shell.specs.Limits.{standard}
use Rattle.script_shell.proofs.Answering.{Part}
use Rattle.script_shell.proofs.conversation.Conversation.take.Given as goal

abbrev pub invariant-loop-len : goal.invariant-loop-len
invariant-loop-len g l = record {
  part : Part (record { count = l.initial.self.session.count; state = l.initial.self.session.shell.0 }) (record { count = l.self.session.count; state = l.self.session.shell.0 })
      l.initial.self.session.refusing l.self.session.refusing
      (pieces_with l.initial.self.piece.items l.initial.self.comment l.bytes) (pieces_with l.self.piece.items l.self.comment l.rest)
      (g.K.Sink.written l.initial.sink) (g.K.Sink.written l.sink);
  after : comment_after l.self.comment l.rest ≡ comment_after l.initial.self.comment l.bytes;
  standard : l.self.session.shell.1 ≡ standard;
  text : l.self.session.text ≡ [];
  count : l.self.session.count + length l.rest ≤ l.initial.self.session.count + length l.bytes;
  finished : g.K.Sink.finished l.initial.sink ≡ false → g.K.Sink.finished l.sink ≡ false;
  told : g.K.Sink.faults l.sink ≡ g.K.Sink.faults l.initial.sink;
}

abbrev pub decreases-loop-len : goal.decreases-loop-len
decreases-loop-len g l = length l.rest
