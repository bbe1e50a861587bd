-- What two complexes have apart.
use Rattle.std.specs.Prelude.{ℕ, ◌+◌, not, List, length}
use Rattle.std.specs.List.{filter}
use Rattle.facet_set.specs.Complex.{stands_in}

-- the facets of the first alone
abbrev pub only_in : List (List ℕ) → List (List ℕ) → List (List ℕ)
only_in c d = filter (λ s. not (stands_in d s)) c

-- how many facets stand in exactly one of the complexes
abbrev pub apart : List (List ℕ) → List (List ℕ) → ℕ
apart c d = length (only_in c d) + length (only_in d c)
