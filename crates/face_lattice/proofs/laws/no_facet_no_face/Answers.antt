use Rattle.face_lattice.proofs.CellLaws.{no_facet_no_face_lem}
use Rattle.face_lattice.proofs.laws.no_facet_no_face.Goals as goal

pub returns : goal.returns
returns c = no_facet_no_face_lem
