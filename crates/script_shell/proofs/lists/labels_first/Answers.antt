use Rattle.std.proofs.Common.{◌≡◌, None, List, ℕ, ap, sym, subst, ◌∙◌}
use Rattle.std.proofs.lemmas.Result.{err_from_is_err_and}
use Rattle.simplex.specs.FirstFailing.{first_failing}
use Rattle.script_shell.specs.Commands.{list_tests}
use Rattle.script_shell.specs.Stops.{StopsAt}
use Rattle.script_shell.proofs.Refusals.{first_list_stops, second_list_stops, two_lists_passed}
use Rattle.script_shell.proofs.lists.labels_first.Goals as goal

pub returns-in_err-first-clause-refused : goal.returns-in_err-first-clause-refused
returns-in_err-first-clause-refused c =
    let p = err_from_is_err_and c.from_residual.result c.from_residual.ensures.1 in
    let f = c.in_err-first.field-0.0 in
    let stops = subst (λ (l : List ℕ). StopsAt f (first_failing (list_tests l))) c.as_slice.ensures c.in_err-first.ensures.refused in
    rw (p.1, p.2) (λ own. first_list_stops f c.args.a.now c.args.b.now own stops)

pub returns-in_err-second-clause-refused : goal.returns-in_err-second-clause-refused
returns-in_err-second-clause-refused c =
    let p = err_from_is_err_and c.from_residual-in_err-second.result c.from_residual-in_err-second.ensures.1 in
    let f = c.in_err-second.field-0.0 in
    let clean : first_failing (list_tests c.args.a.now) ≡ None = ap (λ (l : List ℕ). first_failing (list_tests l)) (sym c.as_slice.ensures) ∙ c.in_ok-first.ensures.clean in
    let stops = subst (λ (l : List ℕ). StopsAt f (first_failing (list_tests l))) c.as_slice-2.ensures c.in_err-second.ensures.refused in
    rw (p.1, p.2) (λ own. second_list_stops f c.args.a.now c.args.b.now own clean stops)

pub returns-clause-clean : goal.returns-clause-clean
returns-clause-clean c =
    let first : first_failing (list_tests c.args.a.now) ≡ None = ap (λ (l : List ℕ). first_failing (list_tests l)) (sym c.as_slice.ensures) ∙ c.in_ok-first.ensures.clean in
    let second : first_failing (list_tests c.args.b.now) ≡ None = ap (λ (l : List ℕ). first_failing (list_tests l)) (sym c.as_slice-2.ensures) ∙ c.in_ok-second.ensures.clean in
    λ own. two_lists_passed c.args.a.now c.args.b.now own first second
