-- What makes shellings worth having.
use Rattle.std.specs.Prelude.{◌≡◌, ℕ, Bool, ◌&&◌, List, map, length, IsTrue, None, pos}
use Rattle.std.specs.List.{list_all, filter}
use Rattle.simplex.specs.Simplex.{is_simplex, is_within}
use Rattle.facet_set.specs.Complex.{is_complex, is_face}
use Rattle.facet_set.specs.Numbers.{f_vector, is_pure}
use Rattle.face_vectors.specs.Vectors.{h_vector_of}
use Rattle.shellings.specs.Shellings.{is_shelling, intervals, counts}
use Rattle.shellings.specs.Greedy.{next_good, greedy}

-- whether the set lies between the two sets
abbrev pub is_between : List ℕ → List ℕ × List ℕ → Bool
is_between s i = is_within i.0 s && is_within s i.1

-- for a shelling each face lies between the restriction of exactly one facet and that facet
abbrev pub EachFaceInOneInterval : Type 0
EachFaceInOneInterval =
    (c l : List (List ℕ)) (s : List ℕ) → IsTrue (list_all is_simplex c) → IsTrue (is_shelling c l) → IsTrue (is_simplex s) → IsTrue (is_face c s)
    → length (filter (is_between s) (intervals l)) ≡ 1

-- the restrictions of a shelling with 0, 1, .. labels are as many as the h-vector says
abbrev pub CountsAreHVector : Type 0
CountsAreHVector =
    (c l : List (List ℕ)) → IsTrue (list_all is_simplex c) → IsTrue (is_complex c) → IsTrue (is_shelling c l)
    → map pos (counts c l) ≡ h_vector_of (f_vector c)

-- no facet of a pure complex can stand next after the greedy order
abbrev pub GreedyIsStuck : Type 0
GreedyIsStuck = (c : List (List ℕ)) → IsTrue (list_all is_simplex c) → IsTrue (is_complex c) → IsTrue (is_pure c) → next_good c (greedy c) ≡ None
