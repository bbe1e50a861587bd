-- What invariants show of complexes.
use Rattle.std.specs.Prelude.{◌≡◌, ℕ, suc, ◌≤◌, ℤ, List, Some, IsSome, IsTrue}
use Rattle.std.specs.List.{list_all}
use Rattle.simplex.specs.Simplex.{is_simplex}
use Rattle.simplex.specs.declared.flip.Flip.{Flip}
use Rattle.facet_set.specs.Complex.{is_complex}
use Rattle.facet_set.specs.Flips.{after, goes, is_simplex_boundary}
use Rattle.facet_set.specs.Numbers.{is_pure, size}
use Rattle.invariants.specs.Invariants.{first_difference, invariants_of, reason, sphere_invariants}
use Rattle.invariants.specs.declared.difference.Difference.TheVariants.{Dim}
use Rattle.invariants.specs.Leads.{Leads, is_flip}

-- the list is that of the facets of a pure complex
pub record IsPureComplex (c : List (List ℕ)) : Type 0 where
  pub simplices : IsTrue (list_all is_simplex c)
  pub complex : IsTrue (is_complex c)
  pub pure : IsTrue (is_pure c)

-- what a list of steps leads to is pure, and has the same invariants
abbrev pub StepsKeepInvariants : Type 0
StepsKeepInvariants = (c d : List (List ℕ)) → IsPureComplex c → Leads c d → IsPureComplex d × (invariants_of d ≡ invariants_of c)

-- the boundaries of all simplices of one dimension have the invariants of the sphere
abbrev pub BoundariesHaveSphereInvariants : Type 0
BoundariesHaveSphereInvariants =
    (c : List (List ℕ)) (d : ℕ) → IsPureComplex c → IsTrue (is_simplex_boundary c) → size c ≡ suc d → invariants_of c ≡ sphere_invariants d

-- where pure complexes differ in an invariant, no list of steps leads from the one to the other
abbrev pub DifferenceTellsApart : Type 0
DifferenceTellsApart =
    (c d : List (List ℕ)) → IsPureComplex c → IsPureComplex d → IsSome (first_difference (invariants_of c) (invariants_of d))
    → (Leads c d → ⊥) × (Leads d c → ⊥)

-- where a pure complex differs from the sphere in an invariant, no list of flips leads to the boundary of a simplex
abbrev pub ReasonTellsNoSphere : Type 0
ReasonTellsNoSphere =
    (c : List (List ℕ)) (ms : List Flip) → IsPureComplex c → 1 ≤ size c → IsSome (reason c) → IsTrue (list_all is_flip ms) → IsTrue (goes c ms)
    → IsTrue (is_simplex_boundary (after c ms)) → ⊥

-- from dimension 0 on, a reason is closedness, the Euler characteristic or the number of components
abbrev pub ReasonIsNoDimension : Type 0
ReasonIsNoDimension = (c : List (List ℕ)) (left right : ℤ) → 1 ≤ size c → reason c ≡ Some (Dim left right) → ⊥
