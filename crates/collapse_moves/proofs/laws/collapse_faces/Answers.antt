use Rattle.collapse_moves.proofs.CollapseLaws.{collapse_faces_lem}
use Rattle.collapse_moves.proofs.laws.collapse_faces.Goals as goal

pub returns : goal.returns
returns c = collapse_faces_lem
