use Rattle.facet_set.proofs.FaceLaws.{family_faces_lem}
use Rattle.facet_set.proofs.laws.family_faces.Goals as goal

pub returns : goal.returns
returns c = family_faces_lem
