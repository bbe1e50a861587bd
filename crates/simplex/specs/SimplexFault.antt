-- Which lists of numbers are lists of the labels of a simplex, in any order.
use Rattle.std.specs.Prelude.{ℕ, ◌+◌, Bool, not, List, [], ◌∷◌, ◌++◌, length, nat_le, Option, Result}
use Rattle.std.specs.Ordering.{nat_cmp}
use Rattle.simplex.specs.declared.simplex_fault.SimplexFault.{SimplexFault}
use Rattle.simplex.specs.declared.simplex_fault.SimplexFault.TheVariants.{Long, Label, Twice}
use Rattle.simplex.specs.FirstFailing.{first_failing, unless_fault}
use Rattle.simplex.specs.InOrder.{in_order}
use Rattle.simplex.specs.Simplex.{has, is_label, len_limit}

-- place by place from the given one on: the number is a label, and none of the earlier ones
abbrev pub place_tests : ℕ → List ℕ → List ℕ → List (Bool × SimplexFault)
place_tests at earlier [] = []
place_tests at earlier (a ∷ rest) = (is_label a, Label at) ∷ (not (has earlier a), Twice a) ∷ place_tests (at + 1) (earlier ++ a ∷ []) rest

-- the length first, and then place by place
abbrev pub simplex_tests : List ℕ → List (Bool × SimplexFault)
simplex_tests ns = (nat_le (length ns) len_limit, Long (length ns)) ∷ place_tests 0 [] ns

-- why the numbers make no simplex, if they make none
abbrev pub simplex_fault : List ℕ → Option SimplexFault
simplex_fault ns = first_failing (simplex_tests ns)

-- the set of the numbers
abbrev pub set : List ℕ → List ℕ
set ns = in_order nat_cmp ns

-- the simplex of the numbers, or why there is none
abbrev pub simplex_of : List ℕ → Result (List ℕ) SimplexFault
simplex_of ns = unless_fault (simplex_fault ns) (set ns)
