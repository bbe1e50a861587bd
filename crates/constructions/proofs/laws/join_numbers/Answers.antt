use Rattle.constructions.proofs.JoinFaces.{join_numbers_lem}
use Rattle.constructions.proofs.laws.join_numbers.Goals as goal

pub returns : goal.returns
returns c = join_numbers_lem
