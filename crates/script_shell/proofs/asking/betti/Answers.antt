use Rattle.std.proofs.lemmas.Result.{err_from_is_err_and}
use Rattle.script_shell.proofs.Betti.{few_passes, few_stops}
use Rattle.script_shell.proofs.asking.betti.Goals as goal

pub returns-in_err-numbers-clause-refused : goal.returns-in_err-numbers-clause-refused
returns-in_err-numbers-clause-refused c =
    let p = err_from_is_err_and c.from_residual.result c.from_residual.ensures.1 in
    rw (p.1, p.2) (few_stops c.args.complex.now c.in_err-numbers.field-0.0 c.in_err-numbers.ensures.faults)

pub returns-clause-passed : goal.returns-clause-passed
returns-clause-passed c = few_passes c.args.complex.now c.in_ok-numbers.ensures.limit
