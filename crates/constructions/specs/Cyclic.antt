-- Boundaries of cyclic polytopes.
use Rattle.std.specs.Prelude.{ℕ, ◌%◌, Bool, ◌&&◌, List, [], ◌∷◌, ◌++◌, length, nat_le, nat_lt, ◌==◌}
use Rattle.std.specs.List.{list_all, filter, count_by, range_with_len}
use Rattle.simplex.specs.Simplex.{minus, subsets, label_limit, len_limit}
use Rattle.facet_set.specs.Complex.{simplices}
use Rattle.facet_set.specs.Numbers.{weight}
use Rattle.constructions.specs.declared.make_fault.MakeFault.{MakeFault}
use Rattle.constructions.specs.declared.make_fault.MakeFault.TheVariants.{Range, DimLimit, LabelRange, Size}

-- Gale's evenness condition: between any two numbers of 1..n that are no members lies an even number of members
abbrev pub is_even_between : ℕ → List ℕ → Bool
is_even_between n s =
    let out = minus (range_with_len 1 n) s in
    list_all (λ a. list_all (λ b. count_by (λ x. nat_lt a x && nat_lt x b) s % 2 == 0) out) out

-- the subsets of 1..n with k members
abbrev pub subsets_of_size : ℕ → ℕ → List (List ℕ)
subsets_of_size k n = filter (λ s. length s == k) (subsets (range_with_len 1 n))

-- those that are even between
unfoldable pub cyclic : ℕ → ℕ → List (List ℕ)
cyclic k n = simplices (filter (is_even_between n) (subsets_of_size k n))

-- the limits of the numbers, in the order of refusal
abbrev pub cyclic_limits : ℕ → ℕ → List (Bool × MakeFault)
cyclic_limits k n =
    (nat_le 1 k && nat_lt k n, Range)
    ∷ (nat_le k len_limit, DimLimit)
    ∷ (nat_le n label_limit, LabelRange)
    ∷ []

-- and then whether there is room
abbrev pub cyclic_tests : ℕ → ℕ → ℕ → List (Bool × MakeFault)
cyclic_tests k n room = cyclic_limits k n ++ (nat_le (weight (cyclic k n)) room, Size) ∷ []
