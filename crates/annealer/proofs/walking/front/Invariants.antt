use Rattle.std.proofs.Common.{◌≡◌, take}
use Rattle.annealer.proofs.walking.front.Given as goal

abbrev pub invariant-loop-k : goal.invariant-loop-k
invariant-loop-k l = l.flips ≡ take l.k l.session.journal
