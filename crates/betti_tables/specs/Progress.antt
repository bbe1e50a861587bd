-- How far the ranks of a complex are kept, and the steps that took.
use Rattle.std.specs.Prelude.{◌≡◌, ℕ, ◌+◌, List, length, Option}
use Rattle.betti_tables.specs.Table.{kept, kept_after, kept_count, missing}

-- rank(1), .., rank(n-1) are kept, those that were not by a step each
pub record IsKeptBelow (c : List (List ℕ)) (before after : List (Option ℕ)) (start now n : ℕ) : Type 0 where
  pub table : (k : ℕ) → kept after k ≡ kept_after c before n k
  pub steps : now ≡ start + length (missing before n)
  pub counted : now + kept_count before ≡ start + kept_count after
