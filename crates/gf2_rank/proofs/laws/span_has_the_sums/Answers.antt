use Rattle.gf2_rank.proofs.SumLaws.{sums_lem}
use Rattle.gf2_rank.proofs.laws.span_has_the_sums.Goals as goal

pub returns : goal.returns
returns c = sums_lem
