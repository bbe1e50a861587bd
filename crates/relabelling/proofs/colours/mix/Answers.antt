use Rattle.std.proofs.Common.{refl}
use Rattle.relabelling.specs.Colours.{mix}
use Rattle.relabelling.proofs.colours.mix.Goals as goal

pub returns : goal.returns
unfolding mix
returns c = refl
