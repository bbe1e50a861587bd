use Rattle.std.proofs.Common.{◌≡◌, ◌-◌, ◌^◌, min, ℕ, List, take}
use Rattle.local_parts.specs.Pieces.{copies, count_at}
use Rattle.local_parts.proofs.ridge_counts.count_copies.Given as goal

abbrev pub invariant-loop-s : goal.invariant-loop-s
invariant-loop-s l = (t : List ℕ) → count_at l.counts t ≡ min (copies t (take l.s-index l.list)) (2 ^ 32 - 1)
