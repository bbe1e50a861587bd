-- What makes the definitions of sets and simplices trustworthy.
use Rattle.std.specs.Prelude.{◌≡◌, ◌≤◌, ◌<◌, ◌^◌, ℕ, List, length, All, Contains, IsTrue, None, nat_eq, ◌↔◌}
use Rattle.std.specs.List.{IsDistinct}
use Rattle.std.specs.Ordering.{nat_cmp}
use Rattle.simplex.specs.InOrder.{is_increasing}
use Rattle.simplex.specs.Simplex.{is_label, is_simplex, is_within, len_limit, subset_at}
use Rattle.simplex.specs.SimplexFault.{set, simplex_fault}

-- the set of a list is in increasing order, and has the members of the list
abbrev pub SetHasTheMembers : Type 0
SetHasTheMembers = (xs : List ℕ) → IsTrue (is_increasing nat_cmp (set xs)) × ((a : ℕ) → Contains (set xs) a ↔ Contains xs a)

-- sets with the same members are one
abbrev pub SetsAreTheirMembers : Type 0
SetsAreTheirMembers =
    (s t : List ℕ) → IsTrue (is_increasing nat_cmp s) → IsTrue (is_increasing nat_cmp t) → ((a : ℕ) → Contains s a ↔ Contains t a) → s ≡ t

-- a set lies in another where each of its members is one of the other's
abbrev pub WithinIsByMembers : Type 0
WithinIsByMembers = (s t : List ℕ) → IsTrue (is_within s t) ↔ ((a : ℕ) → Contains s a → Contains t a)

-- numbers make a simplex exactly where they are at most 12 distinct labels
abbrev pub SimplicesAreDistinctLabels : Type 0
SimplicesAreDistinctLabels =
    (ns : List ℕ) → (simplex_fault ns ≡ None) ↔ ((length ns ≤ len_limit) × All (λ a. IsTrue (is_label a)) ns × IsDistinct nat_eq ns)

-- and then their set is one
abbrev pub FaultlessIsSimplex : Type 0
FaultlessIsSimplex = (ns : List ℕ) → simplex_fault ns ≡ None → IsTrue (is_simplex (set ns))

-- each number stands for a subset, each subset for a number below 2 ^ length, and no two of these numbers for the same
abbrev pub SubsetsAt : Type 0
SubsetsAt =
    (s : List ℕ) → IsTrue (is_simplex s)
    → ((m : ℕ) → IsTrue (is_within (subset_at s m) s))
    × ((t : List ℕ) → IsTrue (is_simplex t) → IsTrue (is_within t s) → (m : ℕ) × (m < 2 ^ length s) × (subset_at s m ≡ t))
    × ((m n : ℕ) → m < 2 ^ length s → n < 2 ^ length s → subset_at s m ≡ subset_at s n → m ≡ n)
