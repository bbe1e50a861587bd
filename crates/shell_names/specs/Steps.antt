-- How the past and the future of a name are kept: from the present on, each complex beside the size of the change that leads to it.
use Rattle.std.specs.Prelude.{◌≡◌, ℕ, ◌+◌, ◌≤◌, List, [], ◌∷◌, map, Option, Some, None}
use Rattle.std.specs.List.{sum_by}
use Rattle.facet_set.specs.Change.{apart}
use Rattle.shell_names.specs.declared.trail.Step.{Step}
use Rattle.shell_names.specs.State.{Complex}
use Rattle.shell_names.specs.Limits.{journal_limit}

-- the complexes
abbrev pub complexes : List Step → List Complex
complexes steps = map (λ (s : Step). s.complex) steps

-- the sum of the sizes
abbrev pub sizes : List Step → ℕ
sizes steps = sum_by (λ (s : Step). s.size) steps

-- the first complex, if there is one
abbrev pub nearest : List Step → Option Complex
nearest [] = None
nearest (s ∷ steps) = Some s.complex

-- each size is that of the change from the complex before, of which the first is given
abbrev pub AreMeasured : Complex → List Step → Type 0
AreMeasured c [] = Unit {0}
AreMeasured c (s ∷ steps) = (s.size ≡ apart c s.complex) × AreMeasured s.complex steps

-- what holds of the present complex of a name with the steps of its past and of its future
pub record IsEntry (present : Complex) (past future : List Step) : Type 0 where
  pub past_measured : AreMeasured present past
  pub future_measured : AreMeasured present future
  pub few : sizes past + sizes future ≤ journal_limit

-- the nearest step on one side gives the present, and the old present becomes the nearest step on the other side, with the same size
pub record Moved (from : List Step) (present : Complex) (to from' : List Step) (present' : Complex) (to' : List Step) : Type 0 where
  pub size : ℕ
  pub gone : from ≡ record { complex = present'; size = size } ∷ from'
  pub come : to' ≡ record { complex = present; size = size } ∷ to
