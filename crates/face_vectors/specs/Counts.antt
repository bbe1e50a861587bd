-- Numbers of faces, as they stand in `Counts`.
use Rattle.std.specs.Prelude.{ℕ, ◌≤◌, List, take, All}
use Rattle.face_vectors.specs.declared.counts.Counts.{Counts}
use Rattle.face_vectors.specs.declared.counts.TheConstants.{COUNT_LIMIT}
use Rattle.simplex.specs.Simplex.{len_limit}

-- f_0, .., f_d
abbrev pub numbers : Counts → List ℕ
numbers c = take c.size c.at

-- the size and each number of faces are within their limits: 12 and 2^31
pub record IsWithinLimits (c : Counts) : Type 0 where
  pub size : c.size ≤ len_limit
  pub counts : All (λ n. n ≤ COUNT_LIMIT) (numbers c)
