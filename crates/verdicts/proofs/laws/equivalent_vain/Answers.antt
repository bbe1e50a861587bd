use Rattle.verdicts.proofs.VainLaws.{equivalent_vain_lem}
use Rattle.verdicts.proofs.laws.equivalent_vain.Goals as goal

pub returns : goal.returns
returns c = equivalent_vain_lem
