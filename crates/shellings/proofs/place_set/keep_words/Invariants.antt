use Rattle.shellings.proofs.PlaceLaws.{IsKeptTo}
use Rattle.shellings.proofs.place_set.keep_words.Given as goal

abbrev pub invariant-loop-k : goal.invariant-loop-k
invariant-loop-k l = IsKeptTo l.initial.words l.kept l.words l.k
