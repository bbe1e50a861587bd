use Rattle.collapse_moves.proofs.CollapseLaws.{drop_faces_lem}
use Rattle.collapse_moves.proofs.laws.drop_faces.Goals as goal

pub returns : goal.returns
returns c = drop_faces_lem
