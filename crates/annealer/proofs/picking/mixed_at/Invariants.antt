use Rattle.std.proofs.Common.{◌≡◌}
use Rattle.std.specs.Prelude.{slice_get}
use Rattle.annealer.specs.Walk.{mixed_options}
use Rattle.annealer.proofs.PickLaws.{mixed_from}
use Rattle.annealer.proofs.picking.mixed_at.Given as goal

abbrev pub invariant-loop-class : goal.invariant-loop-class
invariant-loop-class l = slice_get (mixed_from l.session.present l.facet_size l.class) l.place ≡ slice_get (mixed_options l.session.present) l.fn.place
