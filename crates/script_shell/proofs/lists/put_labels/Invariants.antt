use Rattle.std.proofs.Common.{◌≡◌, map, take}
use Rattle.script_shell.specs.Saturated.{saturated}
use Rattle.script_shell.proofs.lists.put_labels.Given as goal

abbrev pub invariant-loop-n : goal.invariant-loop-n
invariant-loop-n l = l.labels.items ≡ map saturated (take l.n-index l.numbers)
