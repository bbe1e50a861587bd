use Rattle.std.proofs.Common.{arith}
use Rattle.cert_replay.proofs.TestLaws.{differ_here, first_ends, second_ends, found_at}
use Rattle.cert_replay.proofs.replaying.first_difference.Goals as goal
use Rattle.cert_replay.proofs.replaying.first_difference.Goals.{then-loop-at-test+then-at-ys+else-xs-at, then-loop-at-test+else-at-ys, else-loop-at-test}

pub returns : goal.returns
returns c =
    found_at c.loop-at.at _ _ c.loop-at.invariant.same (elim c.loop-at-test.branch [
      | then-loop-at-test+then-at-ys+else-xs-at w ↦ differ_here c.args.xs.now c.args.ys.now c.loop-at.at (omega arith) (omega arith) w.if-xs-at.false
      | then-loop-at-test+else-at-ys w ↦ second_ends c.args.xs.now c.args.ys.now c.loop-at.at (omega arith)
      | else-loop-at-test w ↦ first_ends c.args.xs.now c.args.ys.now c.loop-at.at (omega arith)
    ])
