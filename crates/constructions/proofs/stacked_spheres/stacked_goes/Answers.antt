use Rattle.constructions.proofs.StackedLaws.{stacked_goes_lem}
use Rattle.constructions.proofs.stacked_spheres.stacked_goes.Goals as goal

pub returns : goal.returns
returns c = stacked_goes_lem
