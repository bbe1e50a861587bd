use Rattle.gf2_rank.proofs.OrderLaws.{columns_lem}
use Rattle.gf2_rank.proofs.laws.rank_is_within_the_columns.Goals as goal

pub returns : goal.returns
returns c = columns_lem
