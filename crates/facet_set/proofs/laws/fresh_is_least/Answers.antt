use Rattle.facet_set.proofs.FreshLaws.{fresh_is_least_lem}
use Rattle.facet_set.proofs.laws.fresh_is_least.Goals as goal

pub returns : goal.returns
returns c = fresh_is_least_lem
