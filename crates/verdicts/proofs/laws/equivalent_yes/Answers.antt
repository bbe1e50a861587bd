use Rattle.verdicts.proofs.EquivalentLaws.{equivalent_yes_lem}
use Rattle.verdicts.proofs.laws.equivalent_yes.Goals as goal

pub returns : goal.returns
returns c = equivalent_yes_lem
