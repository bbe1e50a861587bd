use Rattle.std.proofs.Common.{◌≡◌, take}
use Rattle.annealer.specs.Walk.{standing_after}
use Rattle.annealer.proofs.walking.again.Given as goal

abbrev pub invariant-loop-flip : goal.invariant-loop-flip
invariant-loop-flip g l = l.session ≡ standing_after l.start (take l.flip-index l.flips)
