use Rattle.std.proofs.Common.{◌≤◌, sym, subst, arith}
use Rattle.facet_set.specs.Numbers.{weight, weight_limit}
use Rattle.shell_names.specs.State.{Complex, present}
use Rattle.shell_names.proofs.StateLaws.{weight_entry}
use Rattle.script_shell.proofs.Refusals.{if_some}
use Rattle.script_shell.proofs.asking.held.Goals as goal

pub returns-clause-weight : goal.returns-clause-weight
returns-clause-weight c =
    let s = c.args.names.now in
    let x = c.args.name.now in
    let light : weight (present s x) ≤ weight_limit = omega (arith, weight_entry s x) in
    if_some c.present.result _ _ (λ r e. subst (λ (d : Complex). weight d ≤ weight_limit) (sym e) light) c.present.ensures.value
