-- The greedy order of the facets of a pure complex: at each place the least facet for which it is good. It is own.
use Rattle.std.specs.Prelude.{ℕ, zero, suc, List, [], ◌++◌, length, Option, option_to_list}
use Rattle.std.specs.List.{find}
use Rattle.shellings.specs.Shellings.{is_good}

-- the least facet for which the next place is good, if there is one
abbrev pub next_good : List (List ℕ) → List (List ℕ) → Option (List ℕ)
next_good c l = find (is_good c l) c

-- the first n places, or all where there are fewer
abbrev pub places : List (List ℕ) → ℕ → List (List ℕ)
places c zero = []
places c (suc n) = let l = places c n in l ++ option_to_list (next_good c l)

-- there are no more places than facets
abbrev pub greedy : List (List ℕ) → List (List ℕ)
greedy c = places c (length c)
