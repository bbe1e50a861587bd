use Rattle.std.proofs.Common.{◌-◌, length, take, drop, sym, ◌∙◌, arith}
use Rattle.std.proofs.lemmas.List.{take_rest}
use Rattle.replay_report.proofs.CuttingLaws.{longer_at, ended_at}
use Rattle.replay_report.proofs.cutting.tail_len.Goals as goal

pub returns-then-ends_part-clause-split : goal.returns-then-ends_part-clause-split
returns-then-ends_part-clause-split c =
    let bytes = c.args.bytes.now in
    let at = c.loop-at.at in
    ended_at bytes (take (length bytes - at) (drop at bytes)) at c.line_len-len.result (take_rest bytes at) c.line_len-len.ensures.line
    (sym c.begins_part.ensures ∙ c.if-begins_part.false) (sym c.ends_part.ensures ∙ c.if-ends_part.true) c.loop-at.invariant.so_far

pub loop-at-preserved : goal.loop-at-preserved
loop-at-preserved c =
    let bytes = c.args.bytes.now in
    let at = c.loop-at.at in
    record {
      within = omega arith;
      so_far =
          longer_at bytes (take (length bytes - at) (drop at bytes)) at c.line_len-len.result (take_rest bytes at) c.line_len-len.ensures.line
          (sym c.begins_part.ensures ∙ c.if-begins_part.false) (sym c.ends_part.ensures ∙ c.if-ends_part.false) c.loop-at.invariant.so_far;
    }
