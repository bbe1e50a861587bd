use Rattle.std.proofs.Common.{◌≡◌, take}
use Rattle.morse_lists.proofs.GreedyLaws.{HaveWaited}
use Rattle.morse_lists.proofs.greedy.Search.of.Given as goal

abbrev pub invariant-loop-facet : goal.invariant-loop-facet
invariant-loop-facet l = record {
  faces : l.search.faces ≡ l.c;
  waited : HaveWaited (take l.facet-index l.c) l.c l.search.free l.search.tops;
}
