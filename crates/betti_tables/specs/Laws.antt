-- What makes Betti numbers trustworthy.
use Rattle.std.specs.Prelude.{◌≡◌, ℕ, ◌+◌, ◌<◌, ◌≤◌, List, None, Some, IsTrue, ◌↔◌}
use Rattle.std.specs.List.{list_all}
use Rattle.simplex.specs.Simplex.{is_simplex}
use Rattle.facet_set.specs.Numbers.{face_count}
use Rattle.gf2_rank.specs.Matrix.{side_limit}
use Rattle.betti_tables.specs.declared.betti_fault.BettiFault.TheVariants.{RankLimit}
use Rattle.betti_tables.specs.Limits.{limit_fault}
use Rattle.betti_tables.specs.Ranks.{rank_at}

-- boundaries have no boundary: no more cycles can bound than there are
abbrev pub RanksFit : Type 0
RanksFit = (c : List (List ℕ)) (k : ℕ) → IsTrue (list_all is_simplex c) → rank_at c k + rank_at c (k + 1) ≤ face_count c (k + 1)

-- the faces of dimension k are too many, and those of no lower dimension
pub record IsTooMany (c : List (List ℕ)) (k : ℕ) : Type 0 where
  pub above : side_limit < face_count c (k + 1)
  pub least : (j : ℕ) → j < k → face_count c (j + 1) ≤ side_limit

-- there is a fault just where a number of faces is above the limit, and it names the least dimension of these
abbrev pub LimitIsTheLeast : Type 0
LimitIsTheLeast =
    (c : List (List ℕ))
    → ((limit_fault c ≡ None) ↔ ((k : ℕ) → face_count c (k + 1) ≤ side_limit))
    × ((k : ℕ) → (limit_fault c ≡ Some (RankLimit k)) ↔ IsTooMany c k)
