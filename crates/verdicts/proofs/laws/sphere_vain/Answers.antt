use Rattle.verdicts.proofs.VainLaws.{sphere_vain_lem}
use Rattle.verdicts.proofs.laws.sphere_vain.Goals as goal

pub returns : goal.returns
returns c = sphere_vain_lem
