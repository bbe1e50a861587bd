use Rattle.relabelling.proofs.BoundaryLaws.{boundaries_are_carried_lem}
use Rattle.relabelling.proofs.laws.boundaries_are_carried.Goals as goal

pub returns : goal.returns
returns c = boundaries_are_carried_lem
