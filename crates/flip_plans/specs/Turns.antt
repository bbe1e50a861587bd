-- What a flip of A and B does to faces. It touches those in the join of A and B, the sets of which each label is one of A or of B.
use Rattle.std.specs.Prelude.{◌≡◌, ℕ, ◌+◌, not, ◌&&◌, ◌||◌, false, List, [], ◌∷◌, length, IsTrue}
use Rattle.std.specs.List.{list_all, filter}
use Rattle.simplex.specs.declared.flip.Flip.{Flip}
use Rattle.simplex.specs.Simplex.{has, is_simplex, is_within, minus, union}
use Rattle.facet_set.specs.Complex.{is_complex, is_face}
use Rattle.facet_set.specs.Numbers.{degree, is_pure, size}
use Rattle.facet_set.specs.Flips.{allowed, flip, link_vertices}
use Rattle.facet_set.specs.Star.{lies_in_join}

-- the flip is allowed on the complex
pub record IsAllowed (c : List (List ℕ)) (m : Flip) : Type 0 where
  pub simplices : IsTrue (list_all is_simplex c)
  pub complex : IsTrue (is_complex c)
  pub out : IsTrue (is_simplex m.a)
  pub into : IsTrue (is_simplex m.b)
  pub parts : IsTrue (allowed c m.a m.b)

-- the link vertices of s after the flip: those outside the join stay, and of the join all labels beside s that do not make A whole
abbrev pub turned : Flip → List ℕ → List ℕ → List ℕ
turned m s up = union (filter (λ x. not (has m.a x || has m.b x)) up) (filter (λ x. not (has s x) && not (is_within m.a (union s (x ∷ [])))) (union m.a m.b))

abbrev pub LinksTurn : Type 0
LinksTurn = (c : List (List ℕ)) (m : Flip) (s : List ℕ) → IsAllowed c m → IsTrue (lies_in_join m.a m.b s) → link_vertices (flip c m.a m.b) s ≡ turned m s (link_vertices c s)

-- the facets with s: for each label of A beside s one comes, and for each of B beside s one goes
abbrev pub DegreesTurn : Type 0
DegreesTurn =
    (c : List (List ℕ)) (m : Flip) (s : List ℕ) → IsAllowed c m → IsTrue (lies_in_join m.a m.b s)
    → degree (flip c m.a m.b) s + length (minus m.b s) ≡ degree c s + length (minus m.a s)

-- what stays at a set outside the join
pub record StaysAt (c d : List (List ℕ)) (s : List ℕ) : Type 0 where
  pub face : is_face d s ≡ is_face c s
  pub degree : degree d s ≡ degree c s
  pub up : link_vertices d s ≡ link_vertices c s

abbrev pub OutsideStays : Type 0
OutsideStays = (c : List (List ℕ)) (m : Flip) (s : List ℕ) → IsAllowed c m → lies_in_join m.a m.b s ≡ false → StaysAt c (flip c m.a m.b) s

-- in the join, the faces before are the sets that B does not lie in, and those after the ones that A does not lie in
pub record FacesAt (c : List (List ℕ)) (m : Flip) (s : List ℕ) : Type 0 where
  pub before : is_face c s ≡ not (is_within m.b s)
  pub after : is_face (flip c m.a m.b) s ≡ not (is_within m.a s)

abbrev pub FacesInJoin : Type 0
FacesInJoin = (c : List (List ℕ)) (m : Flip) (s : List ℕ) → IsAllowed c m → IsTrue (lies_in_join m.a m.b s) → FacesAt c m s

-- the complex stays pure, of the same dimension
pub record SizesStayAt (c d : List (List ℕ)) : Type 0 where
  pub pure : IsTrue (is_pure d)
  pub size : size d ≡ size c

abbrev pub SizesStay : Type 0
SizesStay = (c : List (List ℕ)) (m : Flip) → IsAllowed c m → SizesStayAt c (flip c m.a m.b)
