use Rattle.std.proofs.Common.{◌≡◌, ℕ, List, Some, None, take, if◌then◌else◌}
use Rattle.std.specs.HashMap.{get}
use Rattle.std.specs.List.{list_any}
use Rattle.morse_lists.specs.Cells.{same, cell_in}
use Rattle.morse_lists.proofs.cells.cells_of.Given as goal

abbrev pub invariant-loop-face : goal.invariant-loop-face
invariant-loop-face l = (s : List ℕ) → get same l.cells s ≡ (if list_any (same s) l.faces then Some (cell_in (take l.face-index l.faces) s) else None)
