use Rattle.facet_set.proofs.SetLaws.{in_item}
use Rattle.constructions.proofs.joins.unions.Goals as goal

pub add_unions-requires : goal.add_unions-requires
add_unions-requires c = λ t i. c.requires c.s-item.result t (in_item c.args.xs.now c.loop-s.s-index c.s-item.result c.loop-s-test.true c.s-item.is) i
