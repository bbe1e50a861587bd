use Rattle.std.proofs.Common.{sym, ◌∙◌}
use Rattle.verdicts.proofs.ReadyLaws.{first_ready, second_ready}
use Rattle.verdicts.proofs.EquivalentLaws.{equivalent_sound}
use Rattle.verdicts.proofs.VainLaws.{equivalent_is_vain}
use Rattle.verdicts.proofs.equivalence.equivalent.Goals as goal

pub returns-clause-sound : goal.returns-clause-sound
returns-clause-sound c =
    let none = sym c.in_ok-fault.ensures ∙ c.in_default.is in
    equivalent_sound c.args.c.now c.args.d.now c.args.budget c.args.seed c.in_ok-decide.field-0
    (first_ready c.args.c.now c.args.d.now c.args.budget c.are_facets.ensures c.are_facets-2.ensures none)
    (second_ready c.args.c.now c.args.d.now c.args.budget c.are_facets.ensures c.are_facets-2.ensures none) c.in_ok-decide.ensures

pub returns-clause-vain : goal.returns-clause-vain
returns-clause-vain c =
    equivalent_is_vain c.args.c.now c.args.d.now c.args.budget c.args.seed c.in_ok-decide.field-0 c.are_facets.ensures c.are_facets-2.ensures (sym c.in_ok-fault.ensures ∙ c.in_default.is) c.in_ok-decide.ensures
