use Rattle.facet_set.proofs.SetLaws.{in_item}
use Rattle.constructions.proofs.spheres.with_either.Goals as goal

pub followed-requires : goal.followed-requires
followed-requires c = (c.requires c.s-item.result (in_item c.args.simplices.now c.loop-s.s-index c.s-item.result c.loop-s-test.true c.s-item.is)).0

pub followed-requires-in-loop-s : goal.followed-requires-in-loop-s
followed-requires-in-loop-s c = (c.requires c.s-item.result (in_item c.args.simplices.now c.loop-s.s-index c.s-item.result c.loop-s-test.true c.s-item.is)).1
