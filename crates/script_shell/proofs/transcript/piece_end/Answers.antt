use Rattle.std.proofs.Common.{arith}
use Rattle.script_shell.proofs.Cutting.{comment_end, comment_next, not_end, next_byte, piece_here, no_piece}
use Rattle.script_shell.proofs.transcript.piece_end.Goals as goal

pub returns-then-not-inside-clause-cut : goal.returns-then-not-inside-clause-cut
returns-then-not-inside-clause-cut c =
    piece_here c.args.comment.now c.args.bytes.now c.loop-at.at c.loop-at.comment c.is_in_comment-inside.result c.loop-at-test.true c.is_in_comment-inside.ensures
    c.if-not-inside.true c.if-byte-eq59.true c.loop-at.invariant.cut

pub loop-at-preserved : goal.loop-at-preserved
loop-at-preserved c =
    record {
      cut = next_byte c.args.comment.now c.args.bytes.now c.loop-at.at c.loop-at.comment c.is_in_comment-inside.result c.loop-at-test.true c.is_in_comment-inside.ensures
          (not_end _ c.loop-at.comment c.is_in_comment-inside.result c.is_in_comment-inside.ensures c.else-byte-eq59.either) c.loop-at.invariant.cut;
      after = comment_next c.args.comment.now c.args.bytes.now c.loop-at.at c.loop-at.comment c.is_in_comment-inside.result c.loop-at-test.true c.is_in_comment-inside.ensures
          c.loop-at.invariant.after;
    }

pub returns-clause-uncut : goal.returns-clause-uncut
returns-clause-uncut c = no_piece c.args.comment.now c.args.bytes.now c.loop-at.at c.loop-at.comment (omega arith) c.loop-at.invariant.cut

pub returns-clause-goes_on : goal.returns-clause-goes_on
returns-clause-goes_on c = comment_end c.args.comment.now c.args.bytes.now c.loop-at.at c.loop-at.comment (omega arith) c.loop-at.invariant.after
