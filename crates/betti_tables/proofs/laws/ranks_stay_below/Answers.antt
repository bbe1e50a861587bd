use Rattle.betti_tables.proofs.FlipLaws.{kept_ranks_stay_lem, ranks_stay_below_lem}
use Rattle.betti_tables.proofs.laws.ranks_stay_below.Goals as goal

pub returns : goal.returns
returns c = record { ranks = ranks_stay_below_lem; kept = kept_ranks_stay_lem }
