use Rattle.std.proofs.Common.{◌≡◌, ℕ, List, Some, None, take, if◌then◌else◌}
use Rattle.std.specs.HashMap.{get}
use Rattle.std.specs.List.{list_any}
use Rattle.morse_lists.specs.Cells.{same, blank}
use Rattle.morse_lists.proofs.cells.blank_cells.Given as goal

abbrev pub invariant-loop-face : goal.invariant-loop-face
invariant-loop-face l = (s : List ℕ) → get same l.cells s ≡ (if list_any (same s) (take l.face-index l.faces) then Some blank else None)
