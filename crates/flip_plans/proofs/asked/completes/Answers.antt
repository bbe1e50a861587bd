use Rattle.std.proofs.Common.{◌∙◌}
use Rattle.flip_plans.proofs.FitLaws.{completes_is}
use Rattle.flip_plans.proofs.asked.completes.Goals as goal

pub returns : goal.returns
returns c = c.are_among.ensures ∙ completes_is c.args.a.now c.args.s.now c.args.label
