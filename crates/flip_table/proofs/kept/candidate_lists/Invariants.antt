use Rattle.std.proofs.Common.{◌≡◌, ◌+◌, map}
use Rattle.std.specs.List.{range_with_len}
use Rattle.flip_rules.specs.Candidates.{candidates}
use Rattle.flip_table.proofs.kept.candidate_lists.Given as goal

abbrev pub invariant-loop-k : goal.invariant-loop-k
invariant-loop-k l = l.lists.items ≡ map (λ k. candidates l.c (k + 1)) (range_with_len 0 l.k)
