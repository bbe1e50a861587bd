use Rattle.std.proofs.Common.{[], ◌∷◌, ap, sym, ◌∙◌, subst}
use Rattle.std.proofs.lemmas.Result.{err_from_is_err_and}
use Rattle.simplex.specs.FirstFailing.{first_failing}
use Rattle.shell_names.specs.State.{Complex, present}
use Rattle.script_shell.specs.Commands.{editing_tests, name_test, weight_test, journal_test, after_edit}
use Rattle.script_shell.specs.Edits.{editing}
use Rattle.script_shell.specs.Stops.{StopsAt}
use Rattle.script_shell.proofs.Refusals.{on_ok, if_err, passed_both, stops_right, edit_stops, edit_passed}
use Rattle.script_shell.proofs.changing.replace.Goals as goal

pub returns-in_err-next-clause-refused : goal.returns-in_err-next-clause-refused
returns-in_err-next-clause-refused c =
    let s = c.args.names.now in
    let x = c.args.name.now in
    let f = c.in_err-next.field-0.0 in
    let p = err_from_is_err_and c.from_residual.result c.from_residual.ensures.1 in
    let stops = subst (λ (d : Complex). StopsAt f (first_failing (editing_tests (editing d c.args.edit.now)))) c.in-Some.ensures.value c.in_err-next.ensures.refused in
    rw (p.1, p.2) (edit_stops f s x (editing (present s x) c.args.edit.now) _ (sym c.in-Some.ensures.held) stops)

pub returns-clause-passed : goal.returns-clause-passed
returns-clause-passed c =
    let s = c.args.names.now in
    let x = c.args.name.now in
    let e = editing (present s x) c.args.edit.now in
    let same = c.in_ok-next.ensures.complex ∙ ap (λ (d : Complex). (editing d c.args.edit.now).complex) c.in-Some.ensures.value in
    let before = edit_passed s x e (sym c.in-Some.ensures.held)
    (ap (λ (d : Complex). first_failing (editing_tests (editing d c.args.edit.now))) (sym c.in-Some.ensures.value) ∙ c.in_ok-next.ensures.passed) in
    on_ok c.put.result _ _ (λ h. passed_both (name_test s x ∷ editing_tests e) _ before
    (ap (λ (d : Complex). first_failing (weight_test c.args.limits (after_edit s x d) ∷ journal_test c.args.limits (after_edit s x d) ∷ [])) (sym same) ∙ h)) c.put.ensures.passed

pub returns-clause-refused : goal.returns-clause-refused
returns-clause-refused c =
    let s = c.args.names.now in
    let x = c.args.name.now in
    let e = editing (present s x) c.args.edit.now in
    let same = c.in_ok-next.ensures.complex ∙ ap (λ (d : Complex). (editing d c.args.edit.now).complex) c.in-Some.ensures.value in
    let before = edit_passed s x e (sym c.in-Some.ensures.held)
    (ap (λ (d : Complex). first_failing (editing_tests (editing d c.args.edit.now))) (sym c.in-Some.ensures.value) ∙ c.in_ok-next.ensures.passed) in
    if_err c.put.result _ _ (λ f h. stops_right f (name_test s x ∷ editing_tests e) _ before
    (subst (λ (d : Complex). StopsAt f (first_failing (weight_test c.args.limits (after_edit s x d) ∷ journal_test c.args.limits (after_edit s x d) ∷ []))) same h)) c.put.ensures.refused
