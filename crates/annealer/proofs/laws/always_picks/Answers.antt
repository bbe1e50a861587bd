use Rattle.annealer.proofs.PickExists.{always_picks_lem}
use Rattle.annealer.proofs.laws.always_picks.Goals as goal

pub returns : goal.returns
returns c = always_picks_lem
