use Rattle.std.proofs.Common.{ap, ◌∙◌}
use Rattle.std.proofs.lemmas.Result.{err_from_is_err_and}
use Rattle.simplex.specs.SimplexFault.{simplex_of}
use Rattle.script_shell.proofs.Listing.{same_of, faultless_of, clean_of, fault_of}
use Rattle.script_shell.proofs.lists.labels_of.Goals as goal

pub returns-clause-list : goal.returns-clause-list
returns-clause-list c =
    c.from_vec.ensures ∙ c.in_ok-put_labels.ensures
    ∙ same_of c.args.numbers.now c.in_ok-of.field-0 (c.in_ok-of.ensures.exact ∙ ap simplex_of (c.as_slice.ensures.value ∙ c.in_ok-put_labels.ensures))

pub returns-clause-simplex : goal.returns-clause-simplex
returns-clause-simplex c =
    faultless_of c.args.numbers.now c.in_ok-of.field-0 (c.in_ok-of.ensures.exact ∙ ap simplex_of (c.as_slice.ensures.value ∙ c.in_ok-put_labels.ensures))

pub returns-clause-clean : goal.returns-clause-clean
returns-clause-clean c =
    clean_of c.args.numbers.now c.in_ok-of.field-0 (c.in_ok-of.ensures.exact ∙ ap simplex_of (c.as_slice.ensures.value ∙ c.in_ok-put_labels.ensures))

pub returns-in_err-of-clause-refused : goal.returns-in_err-of-clause-refused
returns-in_err-of-clause-refused c =
    let p = err_from_is_err_and c.from_residual-in_err-of.result c.from_residual-in_err-of.ensures.1 in
    rw (p.1, p.2) (fault_of c.args.numbers.now c.in_err-of.field-0.0 (c.in_err-of.ensures.exact ∙ ap simplex_of (c.as_slice.ensures.value ∙ c.in_ok-put_labels.ensures)))
