-- The seven ends of a run.
use Rattle.std.specs.Prelude.{ℕ, List, IsTrue, ◌==◌}
use Rattle.std.specs.List.{list_any}
use Rattle.script_shell.specs.declared.exit.Exit.{Exit}
use Rattle.script_shell.specs.declared.exit.Exit.TheVariants.{Done, Refused, Usage, Memory, ReadFault, WriteFault, TooLong}

-- the status of the program
abbrev pub exit_code : Exit → ℕ
exit_code Done = 0
exit_code Refused = 1
exit_code Usage = 2
exit_code Memory = 3
exit_code ReadFault = 4
exit_code WriteFault = 5
exit_code TooLong = 6

-- the end is one of these, which differ in their statuses
abbrev pub IsOneOf : Exit → List Exit → Type 0
IsOneOf e es = IsTrue (list_any (λ x. exit_code e == exit_code x) es)
