use Rattle.facet_set.proofs.FlipLaws.{flips_back_lem}
use Rattle.facet_set.proofs.laws.flips_back.Goals as goal

pub returns : goal.returns
returns c = flips_back_lem
