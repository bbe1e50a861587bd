use Rattle.std.proofs.Common.{◌≡◌, ◌≤◌, ◌-◌, false, length, take}
use Rattle.run_ends.specs.Ends.{Grows}
use Rattle.script_shell.proofs.stream.write_all.Given as goal

abbrev pub invariant-loop-at : goal.invariant-loop-at
invariant-loop-at g l = record {
  within : l.at ≤ length l.text;
  bytes : Grows (g.K.Sink.written l.initial.sink) (g.K.Sink.written l.sink) (take l.at l.text);
  finished : g.K.Sink.finished l.initial.sink ≡ false → g.K.Sink.finished l.sink ≡ false;
  told : g.K.Sink.faults l.sink ≡ g.K.Sink.faults l.initial.sink;
}

abbrev pub decreases-loop-at : goal.decreases-loop-at
decreases-loop-at g l = length l.text - l.at
