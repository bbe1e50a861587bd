-- The limits of a shell.
use Rattle.std.specs.Prelude.{◌≤◌, length}
use Rattle.facet_set.specs.Numbers.{weight_limit}
use Rattle.shell_names.specs.Limits.{journal_limit}
use Rattle.shell_names.specs.State.{State, total_weight, journal}
use Rattle.script_shell.specs.declared.limits.Limits.{Limits}

-- the limits of the program
abbrev pub standard : Limits
standard = record { names = 256; weight = weight_limit; journal = journal_limit }

-- no limit is above the standard one
pub record IsWithinStandard (limits : Limits) : Type 0 where
  pub names : limits.names ≤ standard.names
  pub weight : limits.weight ≤ standard.weight
  pub journal : limits.journal ≤ standard.journal

-- what is held is within these limits: the number of names, the weights of all present complexes, and the sizes of all changes
pub record IsWithin (limits : Limits) (s : State) : Type 0 where
  pub names : length s ≤ limits.names
  pub weight : total_weight s ≤ limits.weight
  pub journal : journal s ≤ limits.journal

-- what a shell always keeps: its limits are within the standard ones, and what it holds is within its limits
pub record IsHeld (limits : Limits) (s : State) : Type 0 where
  pub standard : IsWithinStandard limits
  pub within : IsWithin limits s
