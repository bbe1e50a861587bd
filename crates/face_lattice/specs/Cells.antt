-- The cells of a lattice: what is kept at each face of a list of facets.
use Rattle.std.specs.Prelude.{ℕ, ◌+◌, Bool, ◌&&◌, List, [], Option, Some, None, nat_eq, if◌then◌else◌}
use Rattle.std.specs.Cmp.Lexicographic.{pointwise}
use Rattle.simplex.specs.Simplex.{is_simplex, is_within, minus, union}
use Rattle.facet_set.specs.Complex.{is_face}
use Rattle.facet_set.specs.Flips.{link_vertices}
use Rattle.facet_set.specs.Numbers.{degree}

-- what a cell says of its face: the number of facets that contain it, and its link vertices
pub record FaceCell : Type 0 where
  pub degree : ℕ
  pub up : List ℕ

-- the cell of a face of these facets
abbrev pub cell_of : List (List ℕ) → List ℕ → FaceCell
cell_of c s = record { degree = degree c s; up = link_vertices c s }

-- what is kept at a list of labels: the cell of a face, and nothing where it is none
abbrev pub kept_at : List (List ℕ) → List ℕ → Option FaceCell
kept_at c s = if is_simplex s && is_face c s then Some (cell_of c s) else None

-- whether two simplices are one, as the map tells them apart
abbrev pub same : List ℕ → List ℕ → Bool
same = pointwise nat_eq

-- the cell of no face
abbrev pub blank : FaceCell
blank = record { degree = 0; up = [] }

-- the cell of s with one facet more at s
abbrev pub with_facet : List ℕ → List ℕ → FaceCell → FaceCell
with_facet facet s cell = record { degree = cell.degree + 1; up = union cell.up (minus facet s) }

-- the same from what is kept at s
abbrev pub put_facet : List ℕ → List ℕ → Option FaceCell → FaceCell
put_facet facet s None = with_facet facet s blank
put_facet facet s (Some cell) = with_facet facet s cell

-- what is kept at s after one facet more
abbrev pub after_facet : List ℕ → List ℕ → Option FaceCell → Option FaceCell
after_facet facet s kept = if is_simplex s && is_within s facet then Some (put_facet facet s kept) else kept
