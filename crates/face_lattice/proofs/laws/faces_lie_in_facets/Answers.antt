use Rattle.facet_set.proofs.ComplexLaws.{face_at, face_from}
use Rattle.face_lattice.proofs.laws.faces_lie_in_facets.Goals as goal

pub returns : goal.returns
returns c = λ facets s. (face_at facets s, λ t. face_from facets s t.0 t.1 t.2)
