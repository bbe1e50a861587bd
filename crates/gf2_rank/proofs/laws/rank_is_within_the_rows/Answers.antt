use Rattle.gf2_rank.proofs.RowLaws.{rows_lem}
use Rattle.gf2_rank.proofs.laws.rank_is_within_the_rows.Goals as goal

pub returns : goal.returns
returns c = rows_lem
