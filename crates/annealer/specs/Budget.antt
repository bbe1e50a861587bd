-- The limits of a walk. They are own.
use Rattle.std.specs.Prelude.{ℕ, ◌+◌, ◌-◌, ◌*◌, ◌^◌, Bool, ◌&&◌, List, length, nat_le}
use Rattle.simplex.specs.Simplex.{label_limit}
use Rattle.facet_set.specs.Complex.{verts}
use Rattle.facet_set.specs.Numbers.{size, weight_limit}

-- the most facets of a complex on a walk of so many flips: each comes with at most d more
abbrev pub most_facets : List (List ℕ) → ℕ → ℕ
most_facets c budget = length c + (size c - 1) * budget

-- whether a walk of so many flips keeps within the limits of weight and of labels
abbrev pub is_in_budget : List (List ℕ) → ℕ → Bool
is_in_budget c budget = nat_le (most_facets c budget * 2 ^ size c) weight_limit && nat_le (length (verts c) + budget) label_limit
