-- What an answer to the staging of a flip says.
use Rattle.std.specs.Prelude.{◌≡◌, ⊤, Option, Some, None, Result, Ok, Err}
use Rattle.flip_rules.specs.declared.flip_fault.FlipFault.{FlipFault}
use Rattle.flip_table.specs.declared.stage_fault.StageFault.{StageFault}
use Rattle.flip_table.specs.declared.stage_fault.StageFault.TheVariants.{Refused, Memory}

-- a refusal names the first fault, and where it is staged there is none
abbrev pub IsStageAnswer : Option FlipFault → Result ⊤ StageFault → Type 0
IsStageAnswer fault (Ok _) = fault ≡ None
IsStageAnswer fault (Err (Refused f)) = fault ≡ Some f
IsStageAnswer fault (Err Memory) = ⊤
