use Rattle.flip_rules.proofs.ExchangeLaws.{one_counterpart_lem}
use Rattle.flip_rules.proofs.laws.one_counterpart.Goals as goal

pub returns : goal.returns
returns c = one_counterpart_lem
