use Rattle.std.proofs.Common.{ap}
use Rattle.constructions.proofs.StackedLaws.{base_below, start_value}
use Rattle.constructions.proofs.stacked_spheres.start.Goals as goal

pub put_cones-requires-clause-labels : goal.put_cones-requires-clause-labels
put_cones-requires-clause-labels g c = base_below c.args.d c.first_labels-base.result c.first_labels-base.ensures

pub returns-clause-value : goal.returns-clause-value
returns-clause-value g c = start_value c.args.d c.first_labels-base.result _ _ _ c.first_labels-base.ensures (ap (λ r. r.members) c.new-facets.ensures) c.in_ok-put_in.ensures.value c.in_ok-put_cones.ensures.value
