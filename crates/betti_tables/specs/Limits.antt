-- When a complex has too many faces of one dimension for its ranks.
use Rattle.std.specs.Prelude.{ℕ, ◌+◌, Bool, List, map, Option, nat_le}
use Rattle.std.specs.List.{range_with_len}
use Rattle.simplex.specs.FirstFailing.{first_failing}
use Rattle.facet_set.specs.Numbers.{face_count, size}
use Rattle.gf2_rank.specs.Matrix.{side_limit}
use Rattle.betti_tables.specs.declared.betti_fault.BettiFault.{BettiFault}
use Rattle.betti_tables.specs.declared.betti_fault.BettiFault.TheVariants.{RankLimit}

-- f_k is at most the greatest number of rows
abbrev pub limit_test : List (List ℕ) → ℕ → Bool × BettiFault
limit_test c k = (nat_le (face_count c (k + 1)) side_limit, RankLimit k)

-- for k = 0, .., d, in order
abbrev pub limit_tests : List (List ℕ) → List (Bool × BettiFault)
limit_tests c = map (limit_test c) (range_with_len 0 (size c))

-- the fault of the least k whose f_k is above the limit, if there is one
unfoldable pub limit_fault : List (List ℕ) → Option BettiFault
limit_fault c = first_failing (limit_tests c)
