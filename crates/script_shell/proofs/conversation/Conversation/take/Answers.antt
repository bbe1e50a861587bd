use Rattle.std.proofs.Common.{rules, ◌≡◌, ◌+◌, ◌∷◌, [], ℕ, List, false, ◌∙◌}
use Rattle.script_shell.proofs.Answering.{comment_behind, part_all, part_front, part_step, part_stop}
use Rattle.script_shell.proofs.Replaying.{take_rest}
use Rattle.script_shell.proofs.conversation.Conversation.take.Goals as goal

pub returns-in_err-extend_from_slice-clause-front : goal.returns-in_err-extend_from_slice-clause-front
returns-in_err-extend_from_slice-clause-front g c = part_front _ _ _ _ _ _ _ _ c.loop-len.invariant.part

pub returns-in_err-answer-clause-front : goal.returns-in_err-answer-clause-front
returns-in_err-answer-clause-front g c =
    part_stop _ _ _ _ _ c.loop-len.self.piece.items c.loop-len.rest.now _ c.in-Some.len c.loop-len.self.comment _ _ _
    c.loop-len.invariant.part c.in-Some.ensures.cut c.in_ok-extend_from_slice.ensures.items c.in_err-answer.ensures.front

pub loop-len-preserved : goal.loop-len-preserved
loop-len-preserved g c =
    let kept = c.loop-len.self.piece.items in
    let rest = c.loop-len.rest.now in
    let n = c.in-Some.len in
    let was = c.loop-len.self.comment in
    let outside = c.in_ok-answer.ensures.comment ∙ c.in-Some.ensures.outside in
    record {
      part = part_step _ _ _ _ _ _ _ kept rest _ _ _ n was _ _ _ _ c.loop-len.invariant.part c.in-Some.ensures.cut c.in_ok-extend_from_slice.ensures.items
          c.in_ok-answer.ensures.leads c.in_ok-answer.ensures.written c.in_ok-answer.ensures.piece outside (take_rest rest (n + 1));
      after = comment_behind was c.args.self.now.comment _ rest _ c.args.bytes.now n c.in-Some.ensures.after outside (take_rest rest (n + 1)) c.loop-len.invariant.after;
      standard = search rules;
      text = search rules;
      count = search rules;
      finished = search rules;
      told = search rules;
    }

pub returns-in_err-extend_from_slice-2-clause-front : goal.returns-in_err-extend_from_slice-2-clause-front
returns-in_err-extend_from_slice-2-clause-front g c = part_front _ _ _ _ _ _ _ _ c.loop-len.invariant.part

pub returns-clause-leads : goal.returns-clause-leads
returns-clause-leads g c =
    (part_all _ _ _ _ _ c.loop-len.self.piece.items c.loop-len.rest.now c.loop-len.self.comment _ _ c.loop-len.invariant.part c.in_default.ensures.uncut).leads

pub returns-clause-written : goal.returns-clause-written
returns-clause-written g c =
    (part_all _ _ _ _ _ c.loop-len.self.piece.items c.loop-len.rest.now c.loop-len.self.comment _ _ c.loop-len.invariant.part c.in_default.ensures.uncut).written

pub returns-clause-front : goal.returns-clause-front
returns-clause-front g c = part_front _ _ _ _ _ _ _ _ c.loop-len.invariant.part

pub returns-clause-piece : goal.returns-clause-piece
returns-clause-piece g c =
    let all = part_all _ _ _ _ _ c.loop-len.self.piece.items c.loop-len.rest.now c.loop-len.self.comment _ _ c.loop-len.invariant.part c.in_default.ensures.uncut in
    c.in_ok-extend_from_slice-2.ensures.items ∙ all.rest
