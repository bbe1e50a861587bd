-- How many faces of a facet lie in no facet.
use Rattle.std.specs.Prelude.{ℕ, zero, suc, ◌+◌, ◌==◌, Bool, ◌&&◌, List, length, Option, if◌then◌else◌}
use Rattle.simplex.specs.Simplex.{subset_at}
use Rattle.face_lattice.specs.States.{CellState, has_degree}

-- how many numbers below n pass
abbrev pub passing : (ℕ → Bool) → ℕ → ℕ
passing p zero = 0
passing p (suc n) = passing p n + (if p n then 1 else 0)

-- how many of the first subsets of the facet have so many labels and a blank cell
abbrev pub blank_count : List ℕ → (List ℕ → Option CellState) → ℕ → ℕ → ℕ
blank_count facet cells size n = passing (λ k. length (subset_at facet k) == size && has_degree 0 (cells (subset_at facet k))) n
