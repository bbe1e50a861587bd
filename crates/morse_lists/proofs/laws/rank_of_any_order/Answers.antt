use Rattle.morse_lists.proofs.RankLaws.{any_order_lem}
use Rattle.morse_lists.proofs.laws.rank_of_any_order.Goals as goal

pub returns : goal.returns
returns c = any_order_lem
