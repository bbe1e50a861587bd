use Rattle.std.proofs.Common.{◌≡◌, ◌+◌, ◌*◌, ◌^◌, ◌≤◌, length}
use Rattle.annealer.specs.Walk.{mixed_options}
use Rattle.annealer.proofs.PickLaws.{mixed_from}
use Rattle.annealer.proofs.picking.mixed_count.Given as goal

abbrev pub invariant-loop-class : goal.invariant-loop-class
invariant-loop-class l = record {
  sum : l.count + length (mixed_from l.session.present l.facet_size l.class) ≡ length (mixed_options l.session.present);
  few : l.count ≤ l.class * 2 ^ 64;
}
