use Rattle.facet_set.proofs.SetLaws.{in_item}
use Rattle.constructions.proofs.joins.add_unions.Goals as goal

pub union-requires : goal.union-requires
union-requires c = c.requires c.t-item.result (in_item c.args.ys.now c.loop-t.t-index c.t-item.result c.loop-t-test.true c.t-item.is)
