-- What is noted of an outer set serves its facets, and lasts; and the passes keep the cells those of a list of facets.
use Rattle.std.specs.Prelude.{◌≡◌, ◌<◌, ◌-◌, ◌^◌, ℕ, List, [], ◌∷◌, ◌++◌, Bool, Option, Some, if◌then◌else◌, length, slice_index_or, IsTrue}
use Rattle.face_lattice.specs.States.{CellState}
use Rattle.std.specs.Ordering.{nat_cmp}
use Rattle.simplex.specs.InOrder.{is_increasing}
use Rattle.simplex.specs.Simplex.{is_simplex, without}
use Rattle.face_lattice.specs.Slots.{AreCellsOf, SlabState, AreNumbered, AreNoted, KeepsIds, cell_at, kept, after_more, after_less, or_blank, unless_idle, AreFew, ArePresent}

-- for a facet that is the whole outer set
abbrev pub WholeIsNoted : Type 0
WholeIsNoted = (v : SlabState) (outer ids : List ℕ) → AreNumbered v outer ids → AreNoted v outer (2 ^ length outer) ids

-- for a facet that lacks the label at one place of the outer set
abbrev pub PartIsNoted : Type 0
PartIsNoted =
    (v : SlabState) (outer ids : List ℕ) (j : ℕ) → IsTrue (is_increasing nat_cmp outer) → j < length outer
    → AreNumbered v outer ids → AreNoted v (without outer (slice_index_or outer j 0)) (2 ^ j) ids

-- while ids stay
abbrev pub NotesLast : Type 0
NotesLast = (old new : SlabState) (outer ids : List ℕ) → KeepsIds old new → AreNumbered old outer ids → AreNumbered new outer ids

-- one facet more
abbrev pub FacetComes : Type 0
FacetComes =
    (c : List (List ℕ)) (f : List ℕ) (old new : List ℕ → Option CellState) → AreCellsOf c old → ((t : List ℕ) → new t ≡ after_more f t (old t)) → AreCellsOf (c ++ f ∷ []) new

-- one facet less
abbrev pub FacetGoes : Type 0
FacetGoes =
    (c : List (List ℕ)) (f : List ℕ) (old new : List ℕ → Option CellState) → IsTrue (is_simplex f) → AreCellsOf (c ++ f ∷ []) old → ((t : List ℕ) → new t ≡ after_less f old t) → AreCellsOf c new

-- what the passes require follows
abbrev pub DegreesAreFew : Type 0
DegreesAreFew = (c : List (List ℕ)) (v : SlabState) → length c < 2 ^ 64 - 1 → AreCellsOf c (cell_at v) → AreFew v

abbrev pub FacesArePresent : Type 0
FacesArePresent = (c : List (List ℕ)) (f : List ℕ) (v : SlabState) → IsTrue (is_simplex f) → AreCellsOf (c ++ f ∷ []) (cell_at v) → ArePresent v f

-- notes, room and blank cells given back change no face
abbrev pub NotesKeep : Type 0
NotesKeep = (c : List (List ℕ)) (p : List ℕ → Bool) (old new : SlabState) → AreCellsOf c (cell_at old) → ((t : List ℕ) → kept new t ≡ (if p t then Some (or_blank (kept old t)) else kept old t)) → AreCellsOf c (cell_at new)

abbrev pub RoomKeeps : Type 0
RoomKeeps = (c : List (List ℕ)) (old new : SlabState) → AreCellsOf c (cell_at old) → ((t : List ℕ) → kept new t ≡ kept old t) → AreCellsOf c (cell_at new)

abbrev pub PutBackKeeps : Type 0
PutBackKeeps =
    (c : List (List ℕ)) (p : List ℕ → Bool) (old new : List ℕ → Option CellState) → AreCellsOf c old → ((t : List ℕ) → new t ≡ (if p t then unless_idle (old t) else old t)) → AreCellsOf c new
