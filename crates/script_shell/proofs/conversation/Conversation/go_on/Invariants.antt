use Rattle.std.proofs.Common.{◌≡◌, ◌≤◌, ◌-◌, ◌+◌, [], false, vec_len}
use Rattle.script_shell.specs.Limits.{standard}
use Rattle.script_shell.proofs.Answering.{Behind}
use Rattle.script_shell.proofs.conversation.Conversation.go_on.Given as goal

abbrev pub invariant-reads : goal.invariant-reads
invariant-reads g l = record {
  behind : Behind (g.S.Source.left l.initial.source) (g.S.Source.left l.source) (g.K.Sink.written l.initial.sink) (g.K.Sink.written l.sink)
      l.taken l.self.piece.items l.self.comment
      (record { count = l.self.session.count; state = l.self.session.shell.0 }) l.self.session.refusing;
  standard : l.self.session.shell.1 ≡ standard;
  text : l.self.session.text ≡ [];
  count : l.self.session.count ≤ l.taken;
  short : l.taken ≤ 16777216;
  taken : g.S.Source.taken l.source ≡ g.S.Source.taken l.initial.source + l.taken;
  room : vec_len l.piece ≡ 65536;
  finished : g.K.Sink.finished l.sink ≡ false;
  read_told : g.S.Source.faults l.source ≡ g.S.Source.faults l.initial.source;
  write_told : g.K.Sink.faults l.sink ≡ g.K.Sink.faults l.initial.sink;
}

abbrev pub decreases-reads : goal.decreases-reads
decreases-reads g l = 16777217 - l.taken
