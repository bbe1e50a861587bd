-- What makes the readings of a lattice trustworthy.
use Rattle.std.specs.Prelude.{◌≡◌, ℕ, List, false, IsTrue, ◌↔◌}
use Rattle.simplex.specs.Simplex.{is_within}
use Rattle.simplex.specs.Members.{In}
use Rattle.facet_set.specs.Complex.{is_face}
use Rattle.facet_set.specs.Numbers.{degree}

-- a face is what lies in a facet
abbrev pub FacesLieInFacets : Type 0
FacesLieInFacets = (c : List (List ℕ)) (s : List ℕ) → IsTrue (is_face c s) ↔ ((t : List ℕ) × In t c × IsTrue (is_within s t))

-- what lies in no facet is no face
abbrev pub NoFacetNoFace : Type 0
NoFacetNoFace = (c : List (List ℕ)) (s : List ℕ) → (degree c s ≡ 0) ↔ (is_face c s ≡ false)
