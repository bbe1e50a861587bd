use Rattle.verdicts.proofs.VainLaws.{manifold_vain_lem}
use Rattle.verdicts.proofs.laws.manifold_vain.Goals as goal

pub returns : goal.returns
returns c = manifold_vain_lem
