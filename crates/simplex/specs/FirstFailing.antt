-- Conditions in order: tests, each beside the fault that stands for its failing.
use Rattle.std.specs.Prelude.{Bool, List, [], ◌∷◌, Option, Some, None, Result, Ok, Err, if◌then◌else◌}

-- the fault of the first test that fails, if one does
abbrev pub first_failing : {F : Type 0} → List (Bool × F) → Option F
first_failing [] = None
first_failing (t ∷ ts) = if t.0 then first_failing ts else Some t.1

-- the value where there is no fault
abbrev pub unless_fault : {A F : Type 0} → Option F → A → Result A F
unless_fault None x = Ok x
unless_fault (Some f) x = Err f
