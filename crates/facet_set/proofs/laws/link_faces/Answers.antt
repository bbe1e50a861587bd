use Rattle.facet_set.proofs.FaceLaws.{link_faces_lem}
use Rattle.facet_set.proofs.laws.link_faces.Goals as goal

pub returns : goal.returns
returns c = link_faces_lem
