use Rattle.std.proofs.Common.{◌∙◌}
use Rattle.std.proofs.lemmas.Result.{err_from_is_err_and}
use Rattle.script_shell.specs.Commands.{flipping}
use Rattle.script_shell.proofs.Refusals.{flip_stops, flip_passes}
use Rattle.script_shell.proofs.edits.flipped.Goals as goal

pub returns-in_err-check-clause-refused : goal.returns-in_err-check-clause-refused
returns-in_err-check-clause-refused c =
    let d = c.args.complex.now in
    let p = err_from_is_err_and c.from_residual-in_err-check.result c.from_residual-in_err-check.ensures.1 in
    let own = flip_stops d _ c.args.a.now c.args.b.now c.in_err-check.field-0.0 c.in_ok-not_void.ensures.passed c.in_ok-pair.ensures.sets.0 c.in_ok-pair.ensures.sets.1 c.in_err-check.ensures.exact in
    rw (p.1, p.2) (c.in_ok-pair.ensures.clean (flipping d c.args.a.now c.args.b.now).own ∙ own)

pub returns-clause-passed : goal.returns-clause-passed
returns-clause-passed c =
    let d = c.args.complex.now in
    let own = flip_passes d _ c.args.a.now c.args.b.now tt c.in_ok-not_void.ensures.passed c.in_ok-pair.ensures.sets.0 c.in_ok-pair.ensures.sets.1 c.in_ok-check.ensures.exact in
    c.in_ok-pair.ensures.clean (flipping d c.args.a.now c.args.b.now).own ∙ own
