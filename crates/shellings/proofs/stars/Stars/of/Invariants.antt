use Rattle.std.proofs.Common.{take}
use Rattle.shellings.specs.Stars.{AreShaped, AreStars}
use Rattle.shellings.proofs.stars.Stars.of.Given as goal

abbrev pub invariant-loop-i : goal.invariant-loop-i
invariant-loop-i l = record {
  shape : AreShaped l.labels l.sets.items l.len;
  stars : AreStars (take l.i l.c) l.labels l.sets.items;
}
