use Rattle.relabelling.specs.Colours.{colour, StillKept}
use Rattle.relabelling.proofs.colours.refine.Given as goal

abbrev pub invariant-loop : goal.invariant-loop
invariant-loop l = StillKept l.c l.d (colour l.fn.colours.of_c) (colour l.fn.colours.of_d) (colour l.colours.of_c) (colour l.colours.of_d)
