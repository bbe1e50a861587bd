use Rattle.std.proofs.Common.{ap, is_some}
use Rattle.script_text.proofs.CommandLaws.{is_formed, no_form, not_formed}
use Rattle.script_text.proofs.reading.read_spelled.Goals as goal

pub returns-in_default-clause-none : goal.returns-in_default-clause-none
returns-in_default-clause-none c e =
    no_form c.read_target-target.result.0 _ _ c.read_target-target.ensures.same
    (λ e. c.read_target-target.ensures.none (ap is_some e)) (c.in_ok-form.ensures.none (ap is_some c.in_default.is))

pub returns-clause-some : goal.returns-clause-some
returns-clause-some c =
    is_formed c.read_target-target.result.0 _ _ c.read_target-target.ensures.same c.in-Some.form c.command_from.result (rw c.in-Some.is at c.in_ok-form.ensures.some) c.command_from.ensures

pub returns-clause-none : goal.returns-clause-none
returns-clause-none c =
    not_formed c.read_target-target.result.0 _ _ c.read_target-target.ensures.same (λ e. c.read_target-target.ensures.none (ap is_some e)) c.in-Some.form c.command_from.result
    (rw c.in-Some.is at c.in_ok-form.ensures.some) (rw c.in-Some.is at c.in_ok-form.ensures.normal) c.command_from.ensures
