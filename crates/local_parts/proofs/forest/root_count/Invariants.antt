use Rattle.std.proofs.Common.{◌≡◌, ◌≤◌, get_or, length}
use Rattle.std.specs.Prelude.{◌==◌}
use Rattle.std.specs.List.{filter, range_with_len}
use Rattle.local_parts.proofs.forest.root_count.Given as goal

abbrev pub invariant-loop-i : goal.invariant-loop-i
invariant-loop-i l = record { value : l.count ≡ length (filter (λ i. get_or l.parents i 0 == i) (range_with_len 0 l.i)); bound : l.count ≤ l.i }
