use Rattle.relabelling.proofs.CarryLaws.{zip_next}
use Rattle.relabelling.proofs.search.pairs.Goals as goal

pub loop-i-preserved : goal.loop-i-preserved
loop-i-preserved c = zip_next c.args.vertices.now c.args.images.now c.loop-i.pairs.items c.push.new.self.items c.loop-i.i c.loop-i-test.true c.requires c.loop-i.invariant c.in_ok-push.ensures.items
