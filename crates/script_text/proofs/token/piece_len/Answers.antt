use Rattle.std.proofs.Common.{sym, ◌∙◌}
use Rattle.script_text.proofs.PieceLaws.{piece_step, piece_end, into_none, into_next}
use Rattle.script_text.proofs.token.piece_len.Goals as goal
use Rattle.script_text.proofs.token.piece_len.Goals.{then-loop-at-test+else-goes_on, else-loop-at-test}

pub loop-at-preserved : goal.loop-at-preserved
loop-at-preserved c =
    let r = piece_step c.args.bytes.now c.loop-at.at c.loop-at-test.true (sym c.goes_on.ensures ∙ c.if-goes_on.true) c.loop-at.invariant.1 c.loop-at.invariant.2 in
    (c.loop-at-test.true, r.0, r.1)

pub returns-clause-piece : goal.returns-clause-piece
returns-clause-piece c =
    let bytes = c.args.bytes.now in
    let at = c.loop-at.at in
    piece_end bytes at c.loop-at.invariant.0
    (elim c.loop-at-test.branch [
      | then-loop-at-test+else-goes_on w ↦ into_next bytes at w.loop-at-test.true (sym w.goes_on.ensures ∙ w.if-goes_on.false)
      | else-loop-at-test w ↦ into_none bytes at w.loop-at-test.false
    ]) c.loop-at.invariant.1 c.loop-at.invariant.2
