-- Faces, their ids and the slots of the ids.
use Rattle.std.specs.Prelude.{map, ◌≡◌, ◌==◌, ℕ, ◌+◌, ◌-◌, ◌%◌, ◌^◌, ◌<◌, ◌≤◌, ◌&&◌, Bool, true, false, if◌then◌else◌, List, [], length, Option, Some, None, IsSome, IfSome, IsSomeAnd, not, slice_index_or}
use Rattle.std.specs.Option.{option_map}
use Rattle.std.specs.Map.{lookup}
use Rattle.face_lattice.specs.Cells.{FaceCell, blank, kept_at, same}
use Rattle.std.specs.List.{filter}
use Rattle.std.specs.Ordering.{nat_cmp}
use Rattle.simplex.specs.InOrder.{put}
use Rattle.simplex.specs.Simplex.{has, is_simplex, is_within, subset_at}
use Rattle.face_lattice.specs.States.{CellState, first_cell, renewed, shown, put_more, put_less, has_degree, is_idle, is_busy, asked, HasRoom}
use Rattle.face_lattice.specs.declared.slot.Slot.{Slot}

-- the slot of an id that there is not
abbrev pub no_slot : Slot
no_slot = record { face = []; used = false; cell = first_cell }

-- a new slot of a face
abbrev pub first_slot : List ℕ → Slot
first_slot s = record { face = s; used = true; cell = first_cell }

-- a slot that a face begins to use
abbrev pub started : List ℕ → Slot → Slot
started s old = record { face = s; used = true; cell = renewed old.cell }

-- a slot that no face uses any more
abbrev pub ended : Slot → Slot
ended old = record old { used = false }

-- a slot with another cell
abbrev pub with_cell : CellState → Slot → Slot
with_cell c old = record old { cell = c }

-- the id is that of the face s, and in use
pub record IsLed (slots : List Slot) (s : List ℕ) (i : ℕ) : Type 0 where
  pub within : i < length slots
  pub face : (slice_index_or slots i no_slot).face ≡ s
  pub used : (slice_index_or slots i no_slot).used ≡ true

-- where the map leads from s to i, the id i is that of the face s: so no two faces share an id
abbrev pub AreLed : List (List ℕ × ℕ) → List Slot → Type 0
AreLed ids slots = (s : List ℕ) (i : ℕ) → lookup (same s) ids ≡ Some i → IsLed slots s i

-- there is room for each id among the free ones
pub record IsSlab (ids : List (List ℕ × ℕ)) (slots : List Slot) (free room : ℕ) : Type 0 where
  pub led : AreLed ids slots
  pub few : free + length ids ≤ length slots
  pub fits : length slots ≤ room

-- the id was in use by no face, and is now that of the face s, whose cell is blank
pub record IsFirst (s : List ℕ) (old new : List Slot) (i : ℕ) : Type 0 where
  pub led : IsLed new s i
  pub degree : (slice_index_or new i no_slot).cell.degree ≡ 0
  pub up : (slice_index_or new i no_slot).cell.up ≡ []
  pub askers : (slice_index_or new i no_slot).cell.askers ≡ []
  pub unused : (slice_index_or old i no_slot).used ≡ false

-- the slots in use stay as they are
pub record KeepsUsed (old new : List Slot) : Type 0 where
  pub len : length old ≤ length new
  pub at : (i : ℕ) → i < length old → (slice_index_or old i no_slot).used ≡ true → slice_index_or new i no_slot ≡ slice_index_or old i no_slot

-- what contracts see of a slab: the id of each face that has one, and the slot of each id
pub record SlabState : Type 0 where
  pub ids : List (List ℕ × ℕ)
  pub slots : List Slot

-- the id of a face
abbrev pub id_of : SlabState → List ℕ → Option ℕ
id_of v s = lookup (same s) v.ids

-- the face of an id
abbrev pub face_of : SlabState → ℕ → List ℕ
face_of v i = (slice_index_or v.slots i no_slot).face

-- the cell of a face
abbrev pub cell_at : SlabState → List ℕ → Option CellState
cell_at v s = option_map (λ i. (slice_index_or v.slots i no_slot).cell) (id_of v s)

-- what is kept at a face
abbrev pub kept : SlabState → List ℕ → Option FaceCell
kept v s = option_map shown (cell_at v s)

abbrev pub or_blank : Option FaceCell → FaceCell
or_blank None = blank
or_blank (Some cell) = cell

-- the ids that ask for a face
abbrev pub asked_at : SlabState → List ℕ → List ℕ
asked_at v s = asked (cell_at v s)

-- what is seen of a cell: nothing at degree 0
abbrev pub seen : Option FaceCell → Option FaceCell
seen None = None
seen (Some c) = if c.degree == 0 then None else Some c

-- what is seen of the cells is what is to be kept at the faces of the facets, and blank cells have no link vertices
pub record AreCellsOf (c : List (List ℕ)) (cells : List ℕ → Option CellState) : Type 0 where
  pub seen : (t : List ℕ) → seen (option_map shown (cells t)) ≡ kept_at c t
  pub blank : (t : List ℕ) → IfSome (cells t) (λ x. x.degree ≡ 0 → x.up ≡ [])

-- each face that has an id with the ids that ask for it
abbrev pub askers_of : SlabState → List (List ℕ × List ℕ)
askers_of v = map (λ e. (e.0, (slice_index_or v.slots e.1 no_slot).cell.askers)) v.ids

-- an id in use
abbrev pub IsUsed : SlabState → ℕ → Type 0
IsUsed v i = (s : List ℕ) × (id_of v s ≡ Some i)

-- whether that is the id
abbrev pub is_some_id : ℕ → Option ℕ → Bool
is_some_id i None = false
is_some_id i (Some j) = i == j

-- each cell that nobody needs was one before
abbrev pub HasNoMoreIdle : SlabState → SlabState → Type 0
HasNoMoreIdle old new = (s : List ℕ) → is_idle (cell_at new s) ≡ true → is_idle (cell_at old s) ≡ true

-- no face changes, there is room where there was, and no cell that nobody needs is new
pub record Keeps (old new : SlabState) : Type 0 where
  pub cells : (c : List (List ℕ)) → AreCellsOf c (cell_at old) → AreCellsOf c (cell_at new)
  pub room : (t f : List ℕ) → IsSomeAnd (cell_at old t) (HasRoom f t) → IsSomeAnd (cell_at new t) (HasRoom f t)
  pub idle : HasNoMoreIdle old new

-- who asks for what stays, and what somebody needs keeps its id
pub record Lasting (old new : SlabState) : Type 0 where
  pub asked : (s : List ℕ) → asked_at new s ≡ asked_at old s
  pub ids : (s : List ℕ) → is_busy (cell_at old s) ≡ true → id_of new s ≡ id_of old s
  pub busy : (s : List ℕ) → is_busy (cell_at old s) ≡ true → is_busy (cell_at new s) ≡ true

-- each id leads to where it led, and each cell is as it was
abbrev pub Stays : SlabState → SlabState → Type 0
Stays old new = (t : List ℕ) → IsSome (id_of old t) → (id_of new t ≡ id_of old t) × (cell_at new t ≡ cell_at old t)

-- each id leads to where it led, and no other
pub record KeepsIds (old new : SlabState) : Type 0 where
  pub ids : new.ids ≡ old.ids
  pub faces : (i : ℕ) → face_of new i ≡ face_of old i

-- the id is that of the face s
pub record IsNoted (v : SlabState) (s : List ℕ) (i : ℕ) : Type 0 where
  pub id : id_of v s ≡ Some i
  pub face : face_of v i ≡ s

-- the ids are those of the subsets of the outer set, in the order of their numbers
pub record AreNumbered (v : SlabState) (outer ids : List ℕ) : Type 0 where
  pub len : length ids ≡ 2 ^ length outer
  pub at : (k : ℕ) → k < 2 ^ length outer → IsNoted v (subset_at outer k) (slice_index_or ids k 0)

-- the number in an outer set of the subset with this number in the facet that lacks the label of the outer set whose bit is the gap
abbrev pub spread : ℕ → ℕ → ℕ
spread gap k = k + (k - k % gap)

-- the ids of the faces of the facet stand where their numbers in the outer set say
pub record AreNoted (v : SlabState) (facet : List ℕ) (gap : ℕ) (ids : List ℕ) : Type 0 where
  pub some : 0 < gap
  pub below : (k : ℕ) → k < 2 ^ length facet → spread gap k < length ids
  pub at : (k : ℕ) → k < 2 ^ length facet → IsNoted v (subset_at facet k) (slice_index_or ids (spread gap k) 0)

-- the same where an id may be missing, as it is where the map has none
pub record AreFound (v : SlabState) (facet : List ℕ) (gap : ℕ) (ids : List (Option ℕ)) : Type 0 where
  pub below : (k : ℕ) → k < 2 ^ length facet → spread gap k < length ids
  pub at : (k : ℕ) → k < 2 ^ length facet → slice_index_or ids (spread gap k) None ≡ id_of v (subset_at facet k)

-- at each face of the facet there is room for these labels among its link vertices
abbrev pub IsReady : SlabState → List ℕ → List ℕ → Type 0
IsReady v facet labels = (k : ℕ) → k < 2 ^ length facet → IfSome (cell_at v (subset_at facet k)) (HasRoom labels (subset_at facet k))

-- no degree is the last that a cell can keep
abbrev pub AreFew : SlabState → Type 0
AreFew v = (t : List ℕ) → IfSome (cell_at v t) (λ c. c.degree < 2 ^ 64 - 1)

-- what is kept at s after one facet more
abbrev pub after_more : List ℕ → List ℕ → Option CellState → Option CellState
after_more facet s cell = if is_simplex s && is_within s facet then Some (put_more facet s cell) else cell

-- a blank cell where there is none
abbrev pub put_blank : List ℕ → List ℕ → Option FaceCell → FaceCell
put_blank facet s cell = or_blank cell

-- the labels of the facet that make with s a face of this degree
abbrev pub beside : ℕ → List ℕ → (List ℕ → Option CellState) → List ℕ → List ℕ
beside n facet cells s = filter (λ x. not (has s x) && has_degree n (cells (put nat_cmp x s))) facet

-- what is kept at s after one facet less: the labels that made a face with s in this facet alone are no link vertices any more
abbrev pub after_less : List ℕ → (List ℕ → Option CellState) → List ℕ → Option CellState
after_less facet cells s = if is_simplex s && is_within s facet then Some (put_less (beside 1 facet cells s) (cells s)) else cells s

-- each face of the facet lies in some facet
abbrev pub ArePresent : SlabState → List ℕ → Type 0
ArePresent v facet = (k : ℕ) → k < 2 ^ length facet → IsSomeAnd (cell_at v (subset_at facet k)) (λ c. 0 < c.degree)

-- what is kept, unless nobody needs it
abbrev pub unless_idle : Option CellState → Option CellState
unless_idle cell = if is_idle cell then None else cell

-- what is kept at s after the idle cells of the subsets of the outer set were given back
abbrev pub after_put_back : List ℕ → List ℕ → Option CellState → Option CellState
after_put_back outer s cell = if is_simplex s && is_within s outer then unless_idle cell else cell
