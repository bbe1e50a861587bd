use Rattle.std.proofs.Common.{◌≡◌, ◌++◌, length}
use Rattle.script_shell.specs.Bench.{reply_lines}
use Rattle.script_shell.proofs.bench.put_reply_lines.Given as goal

abbrev pub invariant-loop-rest : goal.invariant-loop-rest
invariant-loop-rest l = l.out ++ reply_lines l.rest ≡ l.initial.out ++ reply_lines l.text

abbrev pub decreases-loop-rest : goal.decreases-loop-rest
decreases-loop-rest l = length l.rest
