use Rattle.shellings.specs.Stars.{AreEmpty}
use Rattle.shellings.proofs.stars.empty_sets.Given as goal

abbrev pub invariant-loop : goal.invariant-loop
invariant-loop l = AreEmpty l.sets.items l.counter l.len
