use Rattle.std.proofs.Common.{◌≡◌, ◌≤◌, ◌+◌, ◌-◌, ◌++◌, drop, length}
use Rattle.simplex.specs.Simplex.{union}
use Rattle.simplex.proofs.simplex.Simplex.union.Given as goal

abbrev pub invariant-loop-label : goal.invariant-loop-label
invariant-loop-label l = record {
  merged : l.union ++ union (drop l.left l.self) (drop l.right l.other) ≡ union l.self l.other;
  short : length l.union ≤ 12;
  left : l.left ≤ length l.self;
  right : l.right ≤ length l.other;
}

abbrev pub decreases-loop-label : goal.decreases-loop-label
decreases-loop-label l = (length l.self - l.left) + (length l.other - l.right)
