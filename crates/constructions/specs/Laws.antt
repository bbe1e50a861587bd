-- Laws of relabellings and joins.
use Rattle.std.specs.Prelude.{◌≡◌, ◌↔◌, ℕ, ◌+◌, ◌*◌, List, length, IsTrue}
use Rattle.simplex.specs.Members.{In}
use Rattle.simplex.specs.Simplex.{is_simplex, union}
use Rattle.facet_set.specs.Complex.{is_face}
use Rattle.facet_set.specs.Facets.{IsFacets}
use Rattle.facet_set.specs.Maps.{image}
use Rattle.facet_set.specs.Numbers.{size}
use Rattle.constructions.specs.Joins.{join, moved}
use Rattle.constructions.specs.Relabelling.{is_renaming, turned}

-- the pairs turned round lead back
abbrev pub RelabelsBack : Type 0
RelabelsBack = (c : List (List ℕ)) (m : List (ℕ × ℕ)) → IsFacets c → IsTrue (is_renaming m c) → image (turned m) (image m c) ≡ c

-- the faces of a join are the unions of a face of each complex, the second with its new labels
abbrev pub JoinFaces : Type 0
JoinFaces =
    (x y : List (List ℕ)) (s : List ℕ) → IsFacets x → IsFacets y → IsTrue (is_simplex s)
    → IsTrue (is_face (join x y) s) ↔ ((a : List ℕ) × (b : List ℕ) × IsTrue (is_face x a) × IsTrue (is_face (moved x y) b) × (s ≡ union a b))

-- the numbers of facets multiply, and where there are some the sizes add
abbrev pub JoinNumbers : Type 0
JoinNumbers =
    (x y : List (List ℕ)) → IsFacets x → IsFacets y
    → (length (join x y) ≡ length x * length y) × ((s t : List ℕ) → In s x → In t y → size (join x y) ≡ size x + size y)
