-- A lattice: what contracts see of it, and what it keeps.
use Rattle.std.specs.Prelude.{◌≡◌, ℕ, ◌+◌, ◌-◌, ◌^◌, ◌≤◌, min, Bool, not, ◌&&◌, ◌||◌, true, false, ◌==◌, nat_le, nat_lt, if◌then◌else◌, ◌<◌, List, [], length, unwrap_or, ◌↔◌, IsSome, Option, Some, None, IsTrue, IsSomeAnd, slice_index_or}
use Rattle.std.specs.List.{filter, list_all, remove}
use Rattle.std.specs.Map.{keys_of, lookup}
use Rattle.simplex.specs.InOrder.{in_order, is_increasing}
use Rattle.std.specs.Ordering.{nat_cmp}
use Rattle.simplex.specs.Simplex.{is_label, is_simplex, is_same, is_within, simplex_cmp, subset_at}
use Rattle.facet_set.specs.Complex.{facets_with, is_complex, is_face, verts}
use Rattle.facet_set.specs.Numbers.{face_count}
use Rattle.face_lattice.specs.Cells.{same}
use Rattle.face_lattice.specs.States.{CellState, is_idle, HasRoom}
use Rattle.face_lattice.specs.Slots.{SlabState, cell_at, is_some_id, AreCellsOf}

-- a complex, the simplices that can be put in without want of memory, how many facets came or went, and beside these which simplex
-- has which id, and which ids ask for which simplex
pub record LatticeState : Type 0 where
  pub facets : List (List ℕ)
  pub room : List (List ℕ)
  pub changes : ℕ
  pub ids : List (List ℕ × ℕ)
  pub askers : List (List ℕ × List ℕ)

-- the id of a simplex that has one
abbrev pub id_in : LatticeState → List ℕ → Option ℕ
id_in l s = lookup (same s) l.ids

-- the ids that ask for a simplex
abbrev pub askers_in : LatticeState → List ℕ → List ℕ
askers_in l s = unwrap_or (lookup (same s) l.askers) []

-- whether that is its id
abbrev pub has_id : LatticeState → List ℕ → ℕ → Bool
has_id l s i = is_some_id i (id_in l s)

-- an id in use
abbrev pub IsId : LatticeState → ℕ → Type 0
IsId l i = (s : List ℕ) × (id_in l s ≡ Some i)

-- whether it is a face, or asked for
abbrev pub is_held : LatticeState → List ℕ → Bool
is_held l s = (is_simplex s && is_face l.facets s) || not (length (askers_in l s) == 0)

-- a simplex has an id exactly where it is a face, is asked for, or is a face of one for which there is room
abbrev pub AreIdsNeeded : LatticeState → Type 0
AreIdsNeeded l = (s : List ℕ) → IsTrue (is_simplex s) → IsSome (id_in l s) ↔ IsTrue (is_held l s || is_face l.room s)

-- up to 13 labels that rise, as those of two simplices that a flip exchanges
abbrev pub is_outer : List ℕ → Bool
is_outer s = nat_le (length s) 13 && list_all is_label s && is_increasing nat_cmp s

-- the id of the part of an outer set with this number, where it is a simplex that has one
abbrev pub id_of_part : LatticeState → List ℕ → ℕ → Option ℕ
id_of_part l outer k = if is_simplex (subset_at outer k) then id_in l (subset_at outer k) else None

-- the ids of the parts of an outer set, in the order of their numbers
pub record AreIdsOf (l : LatticeState) (outer : List ℕ) (ids : List (Option ℕ)) : Type 0 where
  pub len : length ids ≡ 2 ^ length outer
  pub at : (k : ℕ) → k < 2 ^ length outer → slice_index_or ids k None ≡ id_of_part l outer k

-- those of the parts of a simplex alone
pub record AreIdsWithin (l : LatticeState) (outer : List ℕ) (ids : List (Option ℕ)) (f : List ℕ) : Type 0 where
  pub len : length ids ≡ 2 ^ length outer
  pub at : (k : ℕ) → k < 2 ^ length outer → IsTrue (is_within (subset_at outer k) f) → slice_index_or ids k None ≡ id_of_part l outer k

-- the simplex lacks the label of the outer set at this place, and no other
pub record Lacks (outer : List ℕ) (place : ℕ) (f : List ℕ) : Type 0 where
  pub below : place < length outer
  pub rest : f ≡ remove outer place

-- who asks for what stays, and what is a face or asked for, before and after, keeps its id
pub record Holds (old new : LatticeState) : Type 0 where
  pub asked : (s : List ℕ) → askers_in new s ≡ askers_in old s
  pub ids : (s : List ℕ) → is_held old s ≡ true → is_held new s ≡ true → id_in new s ≡ id_in old s

-- the list without the simplex
abbrev pub all_but : List ℕ → List (List ℕ) → List (List ℕ)
all_but f = filter (λ s. not (is_same f s))

-- one more, up to the last u64
abbrev pub risen : ℕ → ℕ
risen n = min (n + 1) (2 ^ 64 - 1)

-- a face is a facet where no label makes a larger face with it
abbrev pub is_facet_cell : Option CellState → Bool
is_facet_cell None = false
is_facet_cell (Some c) = nat_lt 0 c.degree && (length c.up == 0)

-- the facets, read off the cells
abbrev pub facets_in : SlabState → List (List ℕ)
facets_in v = in_order simplex_cmp (filter (λ s. is_facet_cell (cell_at v s)) (keys_of v.ids))

-- each face of these simplices has a cell, with room for its link vertices in all of them
abbrev pub IsRoomOf : List (List ℕ) → (List ℕ → Option CellState) → Type 0
IsRoomOf room cells = (t : List ℕ) → IsTrue (is_simplex t) → IsTrue (is_face room t) → IsSomeAnd (cells t) (HasRoom (verts (facets_with room t)) t)

-- what a lattice keeps of a complex is what its facets say
pub record IsLatticeOf (c : List (List ℕ)) (v : SlabState) (counts : List ℕ) : Type 0 where
  pub simplices : IsTrue (list_all is_simplex c)
  pub complex : IsTrue (is_complex c)
  pub cells : AreCellsOf c (cell_at v)
  pub sizes : length counts ≡ 13
  pub counts_are : (n : ℕ) → slice_index_or counts n 0 ≡ face_count c n

-- and there is room as promised, and for the ids of the faces of a facet; and a cell that nobody needs is there for room alone
pub record IsLattice (v : SlabState) (counts : List ℕ) (room : List (List ℕ)) (places : ℕ) : Type 0 where
  pub kept : IsLatticeOf (facets_in v) v counts
  pub ready : IsRoomOf room (cell_at v)
  pub wide : 2 ^ 12 ≤ places
  pub needed : (s : List ℕ) → IsTrue (is_simplex s) → is_idle (cell_at v s) ≡ true → is_face room s ≡ true
