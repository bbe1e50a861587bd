use Rattle.shellings.proofs.FaceCounts.{counts_lem}
use Rattle.shellings.proofs.laws.counts_are_h_vector.Goals as goal

pub returns : goal.returns
returns c = counts_lem
