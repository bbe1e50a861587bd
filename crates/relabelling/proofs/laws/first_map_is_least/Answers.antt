use Rattle.relabelling.proofs.LeastLaws.{first_map_is_least_lem}
use Rattle.relabelling.proofs.laws.first_map_is_least.Goals as goal

pub returns : goal.returns
returns c = first_map_is_least_lem
