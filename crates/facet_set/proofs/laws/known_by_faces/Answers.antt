use Rattle.facet_set.proofs.FaceLaws.{known_by_faces_lem}
use Rattle.facet_set.proofs.laws.known_by_faces.Goals as goal

pub returns : goal.returns
returns c = known_by_faces_lem
