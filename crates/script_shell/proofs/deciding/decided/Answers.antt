use Rattle.std.proofs.Common.{◌≡◌, ◌⊎◌, None, Some, Result, subst, ap, ◌∙◌}
use Rattle.std.specs.Prelude.{OnOk, IfOk, IfErr}
use Rattle.std.proofs.lemmas.Result.{err_from_is_err_and}
use Rattle.simplex.specs.FirstFailing.{first_failing}
use Rattle.verdicts.specs.declared.verdict.Verdict.{Verdict}
use Rattle.verdicts.specs.declared.verdict_fault.VerdictFault.{VerdictFault}
use Rattle.verdicts.specs.declared.verdict_fault.VerdictFault.TheVariants as unfit
use Rattle.script_shell.specs.Commands.{verdict_reply}
use Rattle.script_shell.proofs.Verdicts.{verdict_passes, verdict_stops}
use Rattle.script_shell.proofs.deciding.decided.Goals as goal

pub returns-in_err-verdict-clause-refused : goal.returns-in_err-verdict-clause-refused
returns-in_err-verdict-clause-refused c =
    let p = err_from_is_err_and c.from_residual.result c.from_residual.ensures.1 in
    rw (p.1, p.2)
    (λ ts h. verdict_stops c.in_err-verdict.field-0.0 ts
    (subst (λ (r : Result Verdict VerdictFault). IfErr r (λ e. (e ≡ unfit.Memory) ⊎ (first_failing ts ≡ Some e))) c.in_err-verdict.was h))

pub returns-clause-passed : goal.returns-clause-passed
returns-clause-passed c =
    λ ts h. verdict_passes ts (subst (λ (r : Result Verdict VerdictFault). OnOk r (first_failing ts ≡ None)) c.in_ok-verdict.was h)

pub returns-clause-text : goal.returns-clause-text
returns-clause-text c =
    λ v h. c.in_ok-reply.ensures ∙ ap verdict_reply (subst (λ (r : Result Verdict VerdictFault). IfOk r (λ w. w ≡ v)) c.in_ok-verdict.was h)
