-- Which faces have a partner, and the faces after a collapse and after a facet goes or comes.
use Rattle.std.specs.Prelude.{◌≡◌, ◌↔◌, ℕ, ◌+◌, not, ◌&&◌, ◌||◌, List, [], ◌∷◌, length, Some, IsTrue}
use Rattle.std.specs.List.{list_all}
use Rattle.simplex.specs.Simplex.{is_simplex, is_within, is_same}
use Rattle.facet_set.specs.Complex.{is_complex, is_face, stands_in, facets_with}
use Rattle.collapse_moves.specs.Collapses.{partner, collapse, drop_face, add_face}

-- a simplex has the partner t exactly where t is the only facet that contains it, and has one label more
abbrev pub PartnerIsFacet : Type 0
PartnerIsFacet =
    (c : List (List ℕ)) (s t : List ℕ) → IsTrue (list_all is_simplex c) → IsTrue (is_complex c) → IsTrue (is_simplex s)
    → (partner c s ≡ Some t) ↔ ((facets_with c s ≡ t ∷ []) × (length s + 1 ≡ length t))

-- the collapse at a face with a partner, as a free one has, takes out the two and no other face
abbrev pub CollapseFaces : Type 0
CollapseFaces =
    (c : List (List ℕ)) (s t b : List ℕ) → IsTrue (list_all is_simplex c) → partner c s ≡ Some t → IsTrue (is_simplex b)
    → is_face (collapse c s) b ≡ (is_face c b && not (is_same b s) && not (is_same b t))

-- dropping a facet takes out that face and no other
abbrev pub DropFaces : Type 0
DropFaces =
    (c : List (List ℕ)) (f b : List ℕ) → IsTrue (list_all is_simplex c) → IsTrue (is_complex c) → IsTrue (stands_in c f) → IsTrue (is_simplex b)
    → is_face (drop_face c f) b ≡ (is_face c b && not (is_same b f))

-- adding a simplex keeps all faces, and brings its subsets and no other face
abbrev pub AddFaces : Type 0
AddFaces =
    (c : List (List ℕ)) (f b : List ℕ) → IsTrue (list_all is_simplex c) → IsTrue (is_simplex f) → is_face (add_face c f) b ≡ (is_face c b || is_within b f)
