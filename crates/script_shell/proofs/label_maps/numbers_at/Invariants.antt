use Rattle.std.proofs.Common.{◌≡◌, map, take, slice_index_or}
use Rattle.script_shell.proofs.label_maps.numbers_at.Given as goal

abbrev pub invariant-loop-list : goal.invariant-loop-list
invariant-loop-list l = l.numbers.items ≡ map (λ xs. slice_index_or xs l.at 0) (take l.list-index l.lists)
