-- What contracts see of a reply.
use Rattle.std.specs.Prelude.{ℕ, List, Option}
use Rattle.conditions.specs.declared.condition.Condition.{Condition}

-- its text, and the condition that refused the command, if one did
pub record Answer : Type 0 where
  pub text : List ℕ
  pub refusal : Option Condition
