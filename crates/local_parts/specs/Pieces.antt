-- The lists of simplices that come of the facets, one facet after another.
use Rattle.std.specs.Prelude.{ℕ, zero, suc, ◌+◌, ◌-◌, ◌^◌, nat_eq, nat_le, ◌==◌, min, unwrap_or, List, [], ◌∷◌, ◌++◌, map, length, if◌then◌else◌}
use Rattle.std.specs.List.{filter, flat_map}
use Rattle.std.specs.Cmp.Lexicographic.{pointwise}
use Rattle.std.specs.HashMap.{HashMap, get}
use Rattle.simplex.specs.Simplex.{is_within, without, subset_at}

-- of a facet: itself, or where it contains the simplex, the facet less one of the simplex's labels each
abbrev pub pieces : List ℕ → List ℕ → List (List ℕ)
pieces a s = if is_within a s then map (without s) a else s ∷ []

-- the subset with this number, where it has so many labels
abbrev pub subset_of_size : ℕ → List ℕ → ℕ → List (List ℕ)
subset_of_size n s mask = filter (λ t. length t == n) (subset_at s mask ∷ [])

-- the subsets with n labels whose numbers are below the last
abbrev pub subsets_below : ℕ → List ℕ → ℕ → List (List ℕ)
subsets_below n s zero = []
subsets_below n s (suc m) = subsets_below n s m ++ subset_of_size n s m

-- the subsets with n labels, or the simplex where it has no more
abbrev pub largest_subsets : ℕ → List ℕ → List (List ℕ)
largest_subsets n s = if nat_le (length s) n then s ∷ [] else subsets_below n s (2 ^ length s)

-- the facets less one label each
abbrev pub all_ridges : List (List ℕ) → List (List ℕ)
all_ridges c = flat_map (λ s. map (without s) s) c

-- how often the simplex stands in the list
abbrev pub copies : List ℕ → List (List ℕ) → ℕ
copies r l = length (filter (pointwise nat_eq r) l)

-- the number that the map has at the simplex, or 0
abbrev pub count_at : {S : Type 0} → HashMap (List ℕ) ℕ S → List ℕ → ℕ
count_at counts t = unwrap_or (get (pointwise nat_eq) counts t) 0

-- one more at the simplex s, up to the last u32
abbrev pub raised : List ℕ → List ℕ → ℕ → ℕ
raised t s n = if pointwise nat_eq t s then min (n + 1) (2 ^ 32 - 1) else n
