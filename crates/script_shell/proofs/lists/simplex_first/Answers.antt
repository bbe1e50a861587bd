use Rattle.std.proofs.Common.{List, ℕ, ap, sym, subst, ◌∙◌}
use Rattle.simplex.specs.FirstFailing.{first_failing}
use Rattle.script_shell.specs.Commands.{list_tests}
use Rattle.script_shell.specs.Stops.{StopsAt}
use Rattle.script_shell.proofs.Refusals.{on_ok, if_err, one_list_stops, one_list_passed}
use Rattle.script_shell.proofs.lists.simplex_first.Goals as goal

pub returns-clause-clean : goal.returns-clause-clean
returns-clause-clean c =
    on_ok c.simplex_of.result _ _ (λ h own. one_list_passed c.args.list.now own (ap (λ (l : List ℕ). first_failing (list_tests l)) (sym c.as_slice.ensures) ∙ h)) c.simplex_of.ensures.clean

pub returns-clause-refused : goal.returns-clause-refused
returns-clause-refused c =
    if_err c.simplex_of.result _ _ (λ s h own. one_list_stops s c.args.list.now own (subst (λ (l : List ℕ). StopsAt s (first_failing (list_tests l))) c.as_slice.ensures h)) c.simplex_of.ensures.refused
