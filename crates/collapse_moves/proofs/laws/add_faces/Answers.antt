use Rattle.collapse_moves.proofs.CollapseLaws.{add_faces_lem}
use Rattle.collapse_moves.proofs.laws.add_faces.Goals as goal

pub returns : goal.returns
returns c = add_faces_lem
