use Rattle.std.proofs.Common.{◌≡◌}
use Rattle.annealer.specs.Walk.{chosen, best_options}
use Rattle.annealer.proofs.PickLaws.{best_below}
use Rattle.annealer.proofs.picking.pick_best.Given as goal

abbrev pub invariant-loop-class : goal.invariant-loop-class
invariant-loop-class l = chosen (best_below l.session.present l.facet_size l.class) l.word ≡ chosen (best_options l.session.present) l.word
