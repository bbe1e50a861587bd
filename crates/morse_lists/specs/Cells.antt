-- What is kept at each face of a complex.
use Rattle.std.specs.Prelude.{◌≡◌, ℕ, ◌+◌, ◌-◌, ◌^◌, ◌==◌, Bool, not, ◌&&◌, List, [], ◌∷◌, map, length, sum, nat_eq, Option, Some, None, if◌then◌else◌}
use Rattle.std.specs.Cmp.Lexicographic.{pointwise}
use Rattle.std.specs.HashMap.{HashMap, get, keys}
use Rattle.std.specs.List.{filter, flat_map, list_any, range_with_len}
use Rattle.simplex.specs.Simplex.{subset_at, union, without}
use Rattle.facet_set.specs.Complex.{faces, generated}
use Rattle.facet_set.specs.Facets.{IsFacets}
use Rattle.morse_lists.specs.declared.cells.Cell.{Cell}

-- the subsets, by their numbers
abbrev pub numbered : List ℕ → List (List ℕ)
numbered s = map (subset_at s) (range_with_len 0 (2 ^ length s))

-- whether two simplices are one, as the map tells them apart
abbrev pub same : List ℕ → List ℕ → Bool
same = pointwise nat_eq

-- the labels without which the face t is s, of which there is one at most
abbrev pub extra : List ℕ → List ℕ → List ℕ
extra s t = filter (λ v. same (without t v) s) t

-- the labels with which s makes a face of the list
abbrev pub ups : List (List ℕ) → List ℕ → List ℕ
ups l s = flat_map (extra s) l

abbrev pub blank : Cell
blank = record { count = 0; sum = 0 }

-- with a label more, or less
abbrev pub more : ℕ → Cell → Cell
more v cell = record { count = cell.count + 1; sum = cell.sum + v }

abbrev pub less : ℕ → Cell → Cell
less v cell = record { count = cell.count - 1; sum = cell.sum - v }

-- with these labels more, or less
abbrev pub with_labels : List ℕ → Cell → Cell
with_labels vs cell = record { count = cell.count + length vs; sum = cell.sum + sum vs }

abbrev pub without_labels : List ℕ → Cell → Cell
without_labels vs cell = record { count = cell.count - length vs; sum = cell.sum - sum vs }

-- what is kept at s, where the list is that of the faces
abbrev pub cell_in : List (List ℕ) → List ℕ → Cell
cell_in l s = record { count = length (ups l s); sum = sum (ups l s) }

abbrev pub cell_at : List (List ℕ) → List ℕ → Option Cell
cell_at l s = if list_any (same s) l then Some (cell_in l s) else None

-- the simplex with the label of the one larger face, where there is one alone
abbrev pub partner_by : Cell → List ℕ → Option (List ℕ)
partner_by cell s = if not (length s == 0) && (cell.count == 1) then Some (union s (cell.sum ∷ [])) else None

-- the complex of the faces that have a cell
abbrev pub complex_in : {S : Type 0} → HashMap (List ℕ) Cell S → List (List ℕ)
complex_in m = generated (keys m)

-- what is kept at each face is what the complex says
pub record IsTableOf {S : Type 0} (c : List (List ℕ)) (m : HashMap (List ℕ) Cell S) : Type 0 where
  pub facets : IsFacets c
  pub cells : (s : List ℕ) → get same m s ≡ cell_at (faces c) s

abbrev pub IsTable : {S : Type 0} → HashMap (List ℕ) Cell S → Type 0
IsTable m = IsTableOf (complex_in m) m
