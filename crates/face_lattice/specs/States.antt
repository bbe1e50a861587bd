-- What a cell keeps of its face.
use Rattle.std.specs.Prelude.{ℕ, ◌+◌, ◌-◌, ◌≤◌, ◌==◌, nat_lt, Bool, false, not, ◌&&◌, List, [], ◌∷◌, ◌++◌, length, Option, Some, None, if◌then◌else◌}
use Rattle.simplex.specs.Simplex.{minus, union, without}
use Rattle.face_lattice.specs.Cells.{FaceCell}

-- the number of facets that contain the face, its link vertices, how many of these fit with no allocation, and the ids that ask for it
pub record CellState : Type 0 where
  pub degree : ℕ
  pub up : List ℕ
  pub capacity : ℕ
  pub askers : List ℕ

-- a new cell
abbrev pub first_cell : CellState
first_cell = record { degree = 0; up = []; capacity = 4; askers = [] }

-- a cell made blank
abbrev pub emptied : CellState → CellState
emptied c = record c { degree = 0; up = [] }

-- a cell made blank, and asked for by none
abbrev pub renewed : CellState → CellState
renewed c = record c { degree = 0; up = []; askers = [] }

-- a cell with other askers
abbrev pub with_askers : List ℕ → CellState → CellState
with_askers ids c = record c { askers = ids }

-- what is kept with one asker more
abbrev pub with_asker : ℕ → Option CellState → Option CellState
with_asker asker None = None
with_asker asker (Some c) = Some (with_askers (c.askers ++ asker ∷ []) c)

-- and without an asker
abbrev pub without_asker : ℕ → Option CellState → Option CellState
without_asker asker None = None
without_asker asker (Some c) = Some (with_askers (without c.askers asker) c)

-- what a cell says of its face
abbrev pub shown : CellState → FaceCell
shown c = record { degree = c.degree; up = c.up }

-- the cell of s with one facet more at s
abbrev pub more : List ℕ → List ℕ → CellState → CellState
more facet s c = record c { degree = c.degree + 1; up = union c.up (minus facet s) }

-- the same from what is kept at s
abbrev pub put_more : List ℕ → List ℕ → Option CellState → CellState
put_more facet s None = more facet s first_cell
put_more facet s (Some c) = more facet s c

-- the link vertices of s in one facet more fit with no allocation
abbrev pub HasRoom : List ℕ → List ℕ → CellState → Type 0
HasRoom facet s c = length (union c.up (minus facet s)) ≤ c.capacity

-- the cell with one facet less, without these link vertices, and blank where that was the last facet
abbrev pub less : List ℕ → CellState → CellState
less lost c = if c.degree == 1 then emptied c else record c { degree = c.degree - 1; up = minus c.up lost }

-- the same of what is kept
abbrev pub put_less : List ℕ → Option CellState → CellState
put_less lost None = first_cell
put_less lost (Some c) = less lost c

-- whether this degree is kept
abbrev pub has_degree : ℕ → Option CellState → Bool
has_degree n None = false
has_degree n (Some c) = c.degree == n

-- whether some facet contains the face
abbrev pub is_in_use : Option CellState → Bool
is_in_use None = false
is_in_use (Some c) = nat_lt 0 c.degree

-- whether there is a cell that nobody needs: its face lies in no facet, and none asks for it
abbrev pub is_idle : Option CellState → Bool
is_idle None = false
is_idle (Some c) = c.degree == 0 && length c.askers == 0

-- whether there is a cell that somebody needs
abbrev pub is_busy : Option CellState → Bool
is_busy None = false
is_busy (Some c) = not (c.degree == 0 && length c.askers == 0)

-- the ids that ask for the face
abbrev pub asked : Option CellState → List ℕ
asked None = []
asked (Some c) = c.askers
