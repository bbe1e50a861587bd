use Rattle.morse_lists.proofs.MorseLaws.{faultless_lem}
use Rattle.morse_lists.proofs.laws.faultless_is_morse_list.Goals as goal

pub returns : goal.returns
returns c = faultless_lem
