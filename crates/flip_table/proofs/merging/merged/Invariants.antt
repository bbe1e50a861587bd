use Rattle.std.proofs.Common.{◌≡◌, ◌≤◌, ◌+◌, ◌-◌, ◌++◌, drop, length}
use Rattle.flip_table.specs.Following.{merged}
use Rattle.flip_table.proofs.merging.merged.Given as goal

-- what is in the list, and the rests merged
abbrev pub invariant-loop-i : goal.invariant-loop-i
invariant-loop-i l = record {
  within_first : l.i ≤ length l.first;
  within_second : l.j ≤ length l.second;
  so_far : l.list ++ merged (drop l.i l.first) (drop l.j l.second) ≡ merged l.first l.second;
}

abbrev pub decreases-loop-i : goal.decreases-loop-i
decreases-loop-i l = (length l.first - l.i) + (length l.second - l.j)
