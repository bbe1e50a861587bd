use Rattle.shellings.specs.Candidates.{AreKept}
use Rattle.shellings.specs.Placement.{IsPlacement}
use Rattle.shellings.proofs.GreedyLaws.{IsGrown}
use Rattle.shellings.proofs.greedy.greedy_of.Given as goal

abbrev pub invariant-loop : goal.invariant-loop
invariant-loop l = record {
  grown : IsGrown l.c l.counter l.placement.order;
  placement : IsPlacement l.c l.placement;
  kept : AreKept l.c l.placement.order l.candidates.items;
}
