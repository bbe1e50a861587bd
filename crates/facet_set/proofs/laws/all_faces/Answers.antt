use Rattle.facet_set.proofs.FaceLaws.{all_faces_lem}
use Rattle.facet_set.proofs.laws.all_faces.Goals as goal

pub returns : goal.returns
returns c = all_faces_lem
