-- Vertices that are near one another.
use Rattle.std.specs.Prelude.{ℕ, Bool, ◌&&◌, ◌||◌, List}
use Rattle.std.specs.List.{list_any}
use Rattle.facet_set.specs.Complex.{verts}
use Rattle.facet_set.specs.Connection.{is_edge}

-- whether the labels are the two ends of an edge or have a common neighbour
abbrev pub is_near : List (List ℕ) → ℕ → ℕ → Bool
is_near c a b = is_edge c a b || list_any (λ v. is_edge c a v && is_edge c v b) (verts c)
