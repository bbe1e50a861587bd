use Rattle.std.proofs.Common.{◌≡◌, ◌+◌, [], map, get_or}
use Rattle.std.specs.List.{range_with_len}
use Rattle.flip_table.specs.Following.{next_candidates}
use Rattle.flip_table.proofs.following.next_lists.Given as goal

abbrev pub invariant-loop-k : goal.invariant-loop-k
invariant-loop-k l = l.following.items ≡ map (λ k. next_candidates l.flip l.next (k + 1) (get_or l.lists k [])) (range_with_len 0 l.k)
