use Rattle.std.proofs.Common.{◌≡◌, ℕ, List, take}
use Rattle.std.specs.HashMap.{get}
use Rattle.std.specs.List.{filter}
use Rattle.std.specs.Option.{option_map}
use Rattle.simplex.specs.Simplex.{without}
use Rattle.morse_lists.specs.Cells.{same, without_labels}
use Rattle.morse_lists.proofs.cells.lower.Given as goal

abbrev pub invariant-loop-label : goal.invariant-loop-label
invariant-loop-label l = (s : List ℕ) → get same l.cells s ≡ option_map (without_labels (filter (λ v. same (without l.face v) s) (take l.label-index l.face))) (get same l.fn.cells s)
