use Rattle.verdicts.proofs.SphereLaws.{sphere_yes_lem}
use Rattle.verdicts.proofs.laws.sphere_yes.Goals as goal

pub returns : goal.returns
returns c = sphere_yes_lem
