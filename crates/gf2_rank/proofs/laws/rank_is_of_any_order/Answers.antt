use Rattle.gf2_rank.proofs.OrderLaws.{order_lem}
use Rattle.gf2_rank.proofs.laws.rank_is_of_any_order.Goals as goal

pub returns : goal.returns
returns c = order_lem
