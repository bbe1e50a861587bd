use Rattle.std.proofs.Common.{◌≡◌, ◌⊎◌, None, Some, Result, subst}
use Rattle.std.specs.Prelude.{OnOk, IfErr}
use Rattle.std.proofs.lemmas.Result.{err_from_is_err_and}
use Rattle.simplex.specs.FirstFailing.{first_failing}
use Rattle.constructions.specs.declared.make_fault.MakeFault.{MakeFault}
use Rattle.constructions.specs.declared.make_fault.MakeFault.TheVariants as fault
use Rattle.shell_names.specs.State.{Complex}
use Rattle.script_shell.proofs.Constructions.{make_passes, make_stops}
use Rattle.script_shell.proofs.constructing.constructed.Goals as goal

pub returns-in_err-made-clause-refused : goal.returns-in_err-made-clause-refused
returns-in_err-made-clause-refused c =
    let p = err_from_is_err_and c.from_residual.result c.from_residual.ensures.1 in
    rw (p.1, p.2)
    (λ ts h. make_stops c.in_err-made.field-0.0 ts
    (subst (λ (r : Result Complex MakeFault). IfErr r (λ e. (e ≡ fault.Memory) ⊎ (first_failing ts ≡ Some e))) c.in_err-made.was h))

pub returns-clause-passed : goal.returns-clause-passed
returns-clause-passed c =
    λ ts h. make_passes ts (subst (λ (r : Result Complex MakeFault). OnOk r (first_failing ts ≡ None)) c.in_ok-made.was h)
