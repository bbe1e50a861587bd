use Rattle.constructions.proofs.RelabelLaws.{relabels_back_lem}
use Rattle.constructions.proofs.laws.relabels_back.Goals as goal

pub returns : goal.returns
returns c = relabels_back_lem
