use Rattle.morse_lists.proofs.MorseLaws.{inequalities_lem}
use Rattle.morse_lists.proofs.laws.morse_inequalities.Goals as goal

pub returns : goal.returns
returns c = inequalities_lem
