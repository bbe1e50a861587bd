use Rattle.flip_rules.proofs.FlippedList.{undone}
use Rattle.flip_rules.proofs.laws.undone_by_inverse.Goals as goal

pub returns : goal.returns
returns c = undone
