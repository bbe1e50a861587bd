use Rattle.std.proofs.Common.{sym, ◌∙◌}
use Rattle.verdicts.proofs.ReadyLaws.{manifold_ready}
use Rattle.verdicts.proofs.ManifoldLaws.{manifold_sound}
use Rattle.verdicts.proofs.VainLaws.{manifold_is_vain}
use Rattle.verdicts.proofs.manifolds.manifold.Goals as goal

pub returns-clause-sound : goal.returns-clause-sound
returns-clause-sound c =
    manifold_sound c.args.c.now c.args.budget c.args.seed c.in_ok-decide.field-0
    (manifold_ready c.args.c.now c.args.budget c.are_facets.ensures (sym c.in_ok-fault.ensures ∙ c.in_default.is)) c.in_ok-decide.ensures

pub returns-clause-vain : goal.returns-clause-vain
returns-clause-vain c =
    manifold_is_vain c.args.c.now c.args.budget c.args.seed c.in_ok-decide.field-0 c.are_facets.ensures (sym c.in_ok-fault.ensures ∙ c.in_default.is) c.in_ok-decide.ensures
