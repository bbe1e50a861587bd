use Rattle.simplex.proofs.SubsetLaws.{subsets_lem}
use Rattle.simplex.proofs.laws.subsets_at.Goals as goal

pub returns : goal.returns
returns c = subsets_lem
