use Rattle.std.proofs.Common.{drop}
use Rattle.cert_replay.proofs.MovedLaws.{Reaches}
use Rattle.cert_replay.proofs.moving.moved.Given as goal

abbrev pub invariant-loop-i : goal.invariant-loop-i
invariant-loop-i l = Reaches l.start l.table l.flips (drop l.i l.flips) l.i
