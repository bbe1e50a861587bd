use Rattle.std.proofs.Common.{◌≡◌, map, take}
use Rattle.script_shell.specs.Commands.{pair_of}
use Rattle.script_shell.specs.Saturated.{saturated}
use Rattle.script_shell.proofs.label_maps.pairs_of.Given as goal

abbrev pub invariant-loop-list : goal.invariant-loop-list
invariant-loop-list l = l.pairs ≡ map (λ xs. (saturated (pair_of xs).0, saturated (pair_of xs).1)) (take l.list-index l.lists)
