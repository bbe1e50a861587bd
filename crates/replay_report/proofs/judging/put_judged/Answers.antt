use Rattle.std.proofs.Common.{◌++◌, ap, ◌∙◌}
use Rattle.replay_report.specs.Report.{accepted_text}
use Rattle.replay_report.proofs.JudgingLaws.{accepted_is, refused_is, fault_is, its_fault}
use Rattle.replay_report.proofs.judging.put_judged.Goals as goal

pub returns-in_ok-put_accepted-in-Ok-clause-text : goal.returns-in_ok-put_accepted-in-Ok-clause-text
returns-in_ok-put_accepted-in-Ok-clause-text c =
    let n = c.in-Ok.count in
    c.in_ok-put_accepted-in-Ok.ensures
    ∙ ap (λ k. c.args.out.now ++ accepted_text k n) c.kind.ensures
    ∙ ap (λ t. c.args.out.now ++ t) (accepted_is c.args.c.now n c.in-Ok.ensures.valid c.in-Ok.ensures.value)

pub returns-in_ok-put_refused-in-Err : goal.returns-in_ok-put_refused-in-Err
returns-in_ok-put_refused-in-Err c =
    let e = its_fault _ c.in-Err.fault c.in-Err.ensures.faults c.in_ok-put_refused-in-Err.ensures.cause in
    record {
      text = c.in_ok-put_refused-in-Err.ensures.text ∙ ap (λ t. c.args.out.now ++ t) (refused_is c.args.c.now c.in-Err.fault e);
      valid = fault_is c.args.c.now c.in-Err.fault e;
    }
