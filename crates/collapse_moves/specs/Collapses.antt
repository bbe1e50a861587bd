-- Elementary collapses, and facets that go and come.
--     partner C S        the one face in which S lies properly
--     collapse C S       all faces but S and its partner
--     drop_face C F      all faces but the facet F
--     add_face C F       the complex of the facets and F
use Rattle.std.specs.Prelude.{ℕ, Bool, not, ◌&&◌, ◌==◌, List, [], ◌∷◌, length, Option, Some, None, is_some}
use Rattle.std.specs.List.{filter}
use Rattle.simplex.specs.Simplex.{is_same}
use Rattle.facet_set.specs.Complex.{generated, is_face, is_proper_face, faces}
use Rattle.facet_set.specs.Parts.{faces_where}
use Rattle.collapse_moves.specs.declared.free_fault.FreeFault.{FreeFault}
use Rattle.collapse_moves.specs.declared.free_fault.FreeFault.TheVariants.{NotFace, NotFree}

-- the member of the list, where there is exactly one
abbrev pub only : {X : Type 0} → List X → Option X
only [] = None
only (x ∷ []) = Some x
only (x ∷ y ∷ xs) = None

-- the face in which the simplex lies properly, where there is exactly one
abbrev pub partner : List (List ℕ) → List ℕ → Option (List ℕ)
partner c s = only (filter (is_proper_face s) (faces c))

-- whether the simplex is nonempty and lies properly in exactly one face
abbrev pub is_free : List (List ℕ) → List ℕ → Bool
is_free c s = not (length s == 0) && is_some (partner c s)

-- what is asked of a free face, in order, each beside its fault
abbrev pub free_tests : List (List ℕ) → List ℕ → List (Bool × FreeFault)
free_tests c s = (is_face c s, NotFace) ∷ (is_free c s, NotFree) ∷ []

-- all faces but the simplex and those in which it lies properly, of which a free face has one
abbrev pub collapse : List (List ℕ) → List ℕ → List (List ℕ)
collapse c s = faces_where (λ b. not (is_same b s) && not (is_proper_face s b)) c

-- all faces but the one
abbrev pub drop_face : List (List ℕ) → List ℕ → List (List ℕ)
drop_face c f = faces_where (λ b. not (is_same b f)) c

-- the complex that the simplex and the facets generate
abbrev pub add_face : List (List ℕ) → List ℕ → List (List ℕ)
add_face c f = generated (f ∷ c)
