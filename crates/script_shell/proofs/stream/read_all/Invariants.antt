use Rattle.std.proofs.Common.{◌≡◌, ◌≤◌, ◌-◌, ◌+◌, vec_len}
use Rattle.run_ends.specs.Ends.{Loses}
use Rattle.script_shell.proofs.stream.read_all.Given as goal

abbrev pub invariant-pieces : goal.invariant-pieces
invariant-pieces g l = record {
  short : vec_len l.bytes ≤ 16777216;
  bytes : Loses (g.S.Source.left l.initial.source) (g.S.Source.left l.source) l.bytes.items;
  taken : g.S.Source.taken l.source ≡ g.S.Source.taken l.initial.source + vec_len l.bytes;
  told : g.S.Source.faults l.source ≡ g.S.Source.faults l.initial.source;
  room : vec_len l.piece ≡ 65536;
}

abbrev pub decreases-pieces : goal.decreases-pieces
decreases-pieces g l = 16777217 - vec_len l.bytes
