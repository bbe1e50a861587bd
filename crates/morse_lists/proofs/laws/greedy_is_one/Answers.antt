use Rattle.morse_lists.proofs.OneLaws.{one_lem}
use Rattle.morse_lists.proofs.laws.greedy_is_one.Goals as goal

pub returns : goal.returns
returns c = one_lem
