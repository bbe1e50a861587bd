-- The eight statuses of the program.
use Rattle.std.specs.Prelude.{ℕ}
use Rattle.std.specs.declared.io.ErrorKind.{ErrorKind}
use Rattle.std.specs.declared.io.ErrorKind.TheVariants.{OutOfMemory}
use Rattle.script_shell.specs.Exits.{exit_code}
use Rattle.script_shell.specs.declared.exit.Exit.TheVariants.{Memory}
use Rattle.simp_program.specs.declared.Ending.{Ending}
use Rattle.simp_program.specs.declared.Ending.TheVariants.{Exit, NoText}

-- the status: that of the exit, which is 0 to 6, and 7 where the words of the command line cannot be had as text
abbrev pub status_of : Ending → ℕ
status_of (Exit e) = exit_code e
status_of NoText = 7

-- the ending where the words cannot be had: memory is wanting, or they are no text
abbrev pub ending_of : ErrorKind → Ending
ending_of OutOfMemory = Exit Memory
ending_of kind = NoText
