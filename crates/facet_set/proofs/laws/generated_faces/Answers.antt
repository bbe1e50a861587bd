use Rattle.facet_set.proofs.FaceLaws.{generated_faces_lem}
use Rattle.facet_set.proofs.laws.generated_faces.Goals as goal

pub returns : goal.returns
returns c = generated_faces_lem
