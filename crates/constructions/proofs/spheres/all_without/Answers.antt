use Rattle.std.proofs.Common.{get_or}
use Rattle.facet_set.proofs.SetLaws.{in_place}
use Rattle.constructions.proofs.spheres.all_without.Goals as goal

pub without-requires : goal.without-requires
without-requires c = c.requires (get_or c.args.labels.now c.loop-label.label-index 0) (in_place c.args.labels.now c.loop-label.label-index 0 c.loop-label-test.true)
