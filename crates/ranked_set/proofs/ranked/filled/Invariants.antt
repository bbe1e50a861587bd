use Rattle.std.proofs.Common.{◌≡◌, ◌≤◌, ◌-◌, length, take}
use Rattle.ranked_set.specs.Ranked.{risen}
use Rattle.ranked_set.proofs.ranked.filled.Given as goal

abbrev pub invariant-loop-s : goal.invariant-loop-s
invariant-loop-s g l = record {
  members : l.set.members ≡ take l.s-index l.list;
  changes : l.set.changes ≡ risen 0 l.s-index;
  spare : length l.list - l.s-index ≤ l.set.spare;
}
