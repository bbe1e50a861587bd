use Rattle.std.proofs.Common.{[], ◌∷◌, ap, sym, ◌∙◌, subst}
use Rattle.std.proofs.lemmas.Result.{err_from_is_err_and}
use Rattle.simplex.specs.FirstFailing.{first_failing}
use Rattle.shell_names.specs.State.{Complex, assign}
use Rattle.script_shell.specs.Commands.{making, making_tests, weight_test}
use Rattle.script_shell.specs.Stops.{StopsAt}
use Rattle.script_shell.proofs.Refusals.{on_ok, if_err, passed_both, stops_right}
use Rattle.script_shell.proofs.making.assign.Goals as goal

pub returns-in_err-facets-clause-refused : goal.returns-in_err-facets-clause-refused
returns-in_err-facets-clause-refused c =
    let p = err_from_is_err_and c.from_residual.result c.from_residual.ensures.1 in
    rw (p.1, p.2) c.in_err-facets.ensures.refused

pub returns-clause-passed : goal.returns-clause-passed
returns-clause-passed c =
    let s = c.args.names.now in
    let x = c.args.name.now in
    let m = making s c.args.maker.now in
    on_ok c.put.result _ _ (λ h. passed_both (making_tests c.args.limits s x m) _ c.in_ok-facets.ensures.passed
    (ap (λ (d : Complex). first_failing (weight_test c.args.limits (assign x d s) ∷ [])) (sym c.in_ok-facets.ensures.complex) ∙ h)) c.put.ensures.passed

pub returns-clause-refused : goal.returns-clause-refused
returns-clause-refused c =
    let s = c.args.names.now in
    let x = c.args.name.now in
    let m = making s c.args.maker.now in
    if_err c.put.result _ _ (λ e h. stops_right e (making_tests c.args.limits s x m) _ c.in_ok-facets.ensures.passed
    (subst (λ (d : Complex). StopsAt e (first_failing (weight_test c.args.limits (assign x d s) ∷ []))) c.in_ok-facets.ensures.complex h)) c.put.ensures.refused
