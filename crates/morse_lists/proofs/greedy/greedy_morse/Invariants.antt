use Rattle.std.proofs.Common.{List, length, ◌++◌}
use Rattle.facet_set.specs.Complex.{faces}
use Rattle.morse_lists.specs.declared.morse_step.MorseStep.{MorseStep}
use Rattle.morse_lists.specs.Greedy.{IsGreedyList}
use Rattle.morse_lists.specs.Queues.{IsReady}
use Rattle.morse_lists.proofs.greedy.greedy_morse.Given as goal

abbrev pub invariant-loop-step : goal.invariant-loop-step
invariant-loop-step l = record {
  ready : IsReady l.search.faces l.search.free l.search.tops;
  list : (rest : List MorseStep) → IsGreedyList l.search.faces rest → IsGreedyList l.c (l.steps ++ rest);
}

abbrev pub decreases-loop-step : goal.decreases-loop-step
decreases-loop-step l = length (faces l.search.faces)
