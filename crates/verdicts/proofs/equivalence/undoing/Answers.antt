use Rattle.std.proofs.Common.{◌∙◌}
use Rattle.verdicts.proofs.EquivalentLaws.{undoing_is}
use Rattle.verdicts.proofs.equivalence.undoing.Goals as goal

pub returns : goal.returns
returns c = c.from_vec.ensures ∙ c.in_ok-inverses.ensures ∙ undoing_is c.args.flips.now
