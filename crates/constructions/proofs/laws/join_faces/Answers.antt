use Rattle.constructions.proofs.JoinFaces.{join_faces_lem}
use Rattle.constructions.proofs.laws.join_faces.Goals as goal

pub returns : goal.returns
returns c = join_faces_lem
