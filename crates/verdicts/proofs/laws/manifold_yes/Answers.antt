use Rattle.verdicts.proofs.ManifoldLaws.{manifold_yes_lem}
use Rattle.verdicts.proofs.laws.manifold_yes.Goals as goal

pub returns : goal.returns
returns c = manifold_yes_lem
