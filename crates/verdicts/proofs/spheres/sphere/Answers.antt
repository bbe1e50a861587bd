use Rattle.std.proofs.Common.{sym, ◌∙◌}
use Rattle.verdicts.proofs.ReadyLaws.{sphere_ready}
use Rattle.verdicts.proofs.SphereLaws.{sphere_sound}
use Rattle.verdicts.proofs.VainLaws.{sphere_is_vain}
use Rattle.verdicts.proofs.spheres.sphere.Goals as goal

pub returns-clause-sound : goal.returns-clause-sound
returns-clause-sound c =
    sphere_sound c.args.c.now c.args.budget c.args.seed c.in_ok-decide.field-0
    (sphere_ready c.args.c.now c.args.budget c.are_facets.ensures (sym c.in_ok-fault.ensures ∙ c.in_default.is)) c.in_ok-decide.ensures

pub returns-clause-vain : goal.returns-clause-vain
returns-clause-vain c =
    sphere_is_vain c.args.c.now c.args.budget c.args.seed c.in_ok-decide.field-0 c.are_facets.ensures (sym c.in_ok-fault.ensures ∙ c.in_default.is) c.in_ok-decide.ensures
