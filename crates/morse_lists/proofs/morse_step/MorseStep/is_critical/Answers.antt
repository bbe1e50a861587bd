use Rattle.std.proofs.Common.{◌∙◌}
use Rattle.facet_set.proofs.GeneratedLaws.{same_is}
use Rattle.morse_lists.proofs.morse_step.MorseStep.is_critical.Goals as goal

pub returns : goal.returns
returns c = c.eq.ensures ∙ same_is c.args.self.now.low c.args.self.now.high
