-- Simplices, as finite sets of labels: the lists of their labels in increasing order.
use Rattle.std.specs.Prelude.{ℕ, ◌/◌, ◌%◌, Bool, not, ◌&&◌, List, [], ◌∷◌, ◌++◌, map, length, nat_le, ◌==◌, if◌then◌else◌}
use Rattle.std.specs.Ordering.{nat_cmp, eq_by_cmp}
use Rattle.std.specs.declared.cmp.Ordering.{Ordering}
use Rattle.std.specs.Cmp.Lexicographic.{slice_cmp}
use Rattle.std.specs.List.{list_any, list_all, filter}
use Rattle.simplex.specs.InOrder.{is_increasing, in_order}

-- whether the label is in the set
abbrev pub has : List ℕ → ℕ → Bool
has s a = list_any (λ b. a == b) s

-- whether the first set lies in the second
abbrev pub is_within : List ℕ → List ℕ → Bool
is_within s t = list_all (has t) s

-- whether the sets have no label in common
abbrev pub is_disjoint : List ℕ → List ℕ → Bool
is_disjoint s t = list_all (λ a. not (has t a)) s

-- the labels of either set
abbrev pub union : List ℕ → List ℕ → List ℕ
union s t = in_order nat_cmp (s ++ t)

-- the labels of the first set that are not in the second
abbrev pub minus : List ℕ → List ℕ → List ℕ
minus s t = filter (λ a. not (has t a)) s

-- the labels of both sets
abbrev pub common : List ℕ → List ℕ → List ℕ
common s t = filter (has t) s

-- the set without one label
abbrev pub without : List ℕ → ℕ → List ℕ
without s a = filter (λ b. not (a == b)) s

-- all subsets
abbrev pub subsets : List ℕ → List (List ℕ)
subsets [] = [] ∷ []
subsets (a ∷ s) = map (λ t. a ∷ t) (subsets s) ++ subsets s

-- the labels at the places whose bits are set in the number
abbrev pub subset_at : List ℕ → ℕ → List ℕ
subset_at [] mask = []
subset_at (a ∷ s) mask = if mask % 2 == 1 then a ∷ subset_at s (mask / 2) else subset_at s (mask / 2)

-- label by label, and a proper prefix first
abbrev pub simplex_cmp : List ℕ → List ℕ → Ordering
simplex_cmp = slice_cmp nat_cmp

-- whether the two sets are one
abbrev pub is_same : List ℕ → List ℕ → Bool
is_same = eq_by_cmp simplex_cmp

-- the greatest label
abbrev pub label_limit : ℕ
label_limit = 1000000

-- the greatest number of labels of a simplex
abbrev pub len_limit : ℕ
len_limit = 12

abbrev pub is_label : ℕ → Bool
is_label a = nat_le 1 a && nat_le a label_limit

-- whether the list is a simplex: at most 12 labels of 1..1,000,000 in increasing order
abbrev pub is_simplex : List ℕ → Bool
is_simplex s = nat_le (length s) len_limit && list_all is_label s && is_increasing nat_cmp s
