-- The facets of cyclic polytopes, number by number: the members of a facet stand in runs, and each run between two numbers that
-- are no members is of even length.
use Rattle.std.specs.Prelude.{ℕ, zero, suc, ◌+◌, Bool, false, not, List, [], ◌∷◌, ◌++◌, map, if◌then◌else◌}

-- the lists of k of the r numbers from a on, after a run of odd or even length
abbrev pub runs : Bool → ℕ → ℕ → ℕ → List (List ℕ)
runs odd a zero zero = [] ∷ []
runs odd a zero (suc k) = []
runs odd a (suc r) zero = if odd then [] else runs false (a + 1) r zero
runs odd a (suc r) (suc k) = map (λ s. a ∷ s) (runs (not odd) (a + 1) r k) ++ (if odd then [] else runs false (a + 1) r (suc k))

-- the lists of k of the r numbers from a on, where the first run may be of any length
abbrev pub starts : ℕ → ℕ → ℕ → List (List ℕ)
starts a zero zero = [] ∷ []
starts a zero (suc k) = []
starts a (suc r) zero = runs false (a + 1) r zero
starts a (suc r) (suc k) = map (λ s. a ∷ s) (starts (a + 1) r k) ++ runs false (a + 1) r (suc k)
