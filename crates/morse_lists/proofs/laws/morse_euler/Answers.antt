use Rattle.morse_lists.proofs.MorseLaws.{euler_lem}
use Rattle.morse_lists.proofs.laws.morse_euler.Goals as goal

pub returns : goal.returns
returns c = euler_lem
