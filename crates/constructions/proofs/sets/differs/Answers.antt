use Rattle.std.proofs.Common.{not, ◌∙◌, ap}
use Rattle.facet_set.proofs.GeneratedLaws.{same_is}
use Rattle.constructions.proofs.sets.differs.Goals as goal

pub returns : goal.returns
returns c = c.ne.ensures ∙ ap not (same_is c.args.s.now c.args.t.now)
