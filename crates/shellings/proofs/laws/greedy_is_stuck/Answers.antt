use Rattle.shellings.proofs.GreedyLaws.{stuck_lem}
use Rattle.shellings.proofs.laws.greedy_is_stuck.Goals as goal

pub returns : goal.returns
returns c = stuck_lem
