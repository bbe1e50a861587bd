-- Laws of faces.
use Rattle.std.specs.Prelude.{◌≡◌, ℕ, ◌↔◌, Bool, ◌&&◌, List, IsTrue}
use Rattle.std.specs.List.{list_all}
use Rattle.simplex.specs.Members.{In}
use Rattle.simplex.specs.Simplex.{is_simplex, is_within, is_disjoint, union}
use Rattle.facet_set.specs.Complex.{generated, is_complex, is_face, is_maximal_in, faces}
use Rattle.facet_set.specs.Parts.{faces_where, link}

-- what a list generates are its members that lie properly in no other
abbrev pub GeneratedMembers : Type 0
GeneratedMembers = (l : List (List ℕ)) (s : List ℕ) → In s (generated l) ↔ (In s l × IsTrue (is_maximal_in l s))

-- what a list generates is a complex, and its faces are the sets that lie in a member of the list
abbrev pub GeneratedFaces : Type 0
GeneratedFaces = (l : List (List ℕ)) → IsTrue (list_all is_simplex l) → IsTrue (is_complex (generated l)) × ((s : List ℕ) → is_face (generated l) s ≡ is_face l s)

-- the list of all faces has just the simplices that lie in a facet
abbrev pub AllFaces : Type 0
AllFaces = (c : List (List ℕ)) (s : List ℕ) → IsTrue (list_all is_simplex c) → In s (faces c) ↔ (IsTrue (is_simplex s) × IsTrue (is_face c s))

-- complexes with the same faces are one
abbrev pub KnownByFaces : Type 0
KnownByFaces =
    (c d : List (List ℕ)) → IsTrue (list_all is_simplex c) → IsTrue (list_all is_simplex d) → IsTrue (is_complex c) → IsTrue (is_complex d) → ((s : List ℕ) → IsTrue (is_simplex s) → is_face c s ≡ is_face d s) → c ≡ d

-- the test holds of each simplex that lies in one of which it holds
abbrev pub IsClosedBelow : (List ℕ → Bool) → Type 0
IsClosedBelow test = (s t : List ℕ) → IsTrue (is_simplex s) → IsTrue (is_simplex t) → IsTrue (is_within s t) → IsTrue (test t) → IsTrue (test s)

-- the faces that pass a test which is closed below are the faces of the complex of their maximal members
abbrev pub FamilyFaces : Type 0
FamilyFaces = (test : List ℕ → Bool) (c : List (List ℕ)) (s : List ℕ) → IsTrue (list_all is_simplex c) → IsClosedBelow test → IsTrue (is_simplex s) → is_face (faces_where test c) s ≡ (is_face c s && test s)

-- b is a face of the link of a exactly where it is disjoint from a and the union of both is a face
abbrev pub LinkFaces : Type 0
LinkFaces = (c : List (List ℕ)) (a b : List ℕ) → IsTrue (list_all is_simplex c) → IsTrue (is_simplex b) → is_face (link c a) b ≡ (is_disjoint b a && is_face c (union a b))
