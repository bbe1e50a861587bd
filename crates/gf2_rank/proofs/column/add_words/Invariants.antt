use Rattle.gf2_rank.specs.Added.{IsAdded}
use Rattle.gf2_rank.proofs.column.add_words.Given as goal

abbrev pub invariant-loop-k : goal.invariant-loop-k
invariant-loop-k l = IsAdded l.initial.words l.added l.words l.k
