use Rattle.flip_rules.proofs.ExchangeLaws.{star_by_counts_lem}
use Rattle.flip_rules.proofs.laws.star_by_counts.Goals as goal

pub returns : goal.returns
returns c = star_by_counts_lem
