use Rattle.flip_rules.proofs.ExchangeLaws.{open_candidates_lem}
use Rattle.flip_rules.proofs.laws.open_candidates.Goals as goal

pub returns : goal.returns
returns c = open_candidates_lem
