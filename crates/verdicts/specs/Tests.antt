-- The conditions of the verdicts in their order, each beside the fault where it does not hold.
use Rattle.std.specs.Prelude.{ℕ, ◌*◌, Bool, List, [], ◌∷◌, ◌++◌, map, length, nat_le, nat_lt, ◌==◌}
use Rattle.facet_set.specs.Complex.{verts}
use Rattle.facet_set.specs.Numbers.{is_pure, size}
use Rattle.annealer.specs.Budget.{is_in_budget}
use Rattle.verdicts.specs.declared.verdict_fault.VerdictFault.{VerdictFault}
use Rattle.verdicts.specs.declared.verdict_fault.VerdictFault.TheVariants.{Void, NotPure, DimRange, DimDiffers, Budget}

abbrev pub Test : Type 0
Test = Bool × VerdictFault

-- each complex has a facet, each is pure, and each has at least so many labels a facet
abbrev pub ready_tests : ℕ → List (List (List ℕ)) → List Test
ready_tests n cs =
    map (λ c. (nat_lt 0 (length c), Void)) cs
    ++ map (λ c. (is_pure c, NotPure)) cs
    ++ map (λ c. (nat_le n (size c), DimRange)) cs

-- a walk of so many flips from each keeps within the limits
abbrev pub budget_tests : List (List (List ℕ)) → ℕ → List Test
budget_tests cs budget = map (λ c. (is_in_budget c budget, Budget)) cs

-- the most flips of all walks on the links of a complex together
abbrev pub links_limit : ℕ
links_limit = 4194304

abbrev pub sphere_tests : List (List ℕ) → ℕ → List Test
sphere_tests c budget = ready_tests 1 (c ∷ []) ++ budget_tests (c ∷ []) budget

abbrev pub equivalent_tests : List (List ℕ) → List (List ℕ) → ℕ → List Test
equivalent_tests c d budget = ready_tests 1 (c ∷ d ∷ []) ++ (size c == size d, DimDiffers) ∷ budget_tests (c ∷ d ∷ []) budget

abbrev pub manifold_tests : List (List ℕ) → ℕ → List Test
manifold_tests c budget =
    ready_tests 2 (c ∷ []) ++ budget_tests (c ∷ []) budget ++ (nat_le (length (verts c) * budget) links_limit, Budget) ∷ []
