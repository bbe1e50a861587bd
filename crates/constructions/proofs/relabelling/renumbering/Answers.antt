use Rattle.constructions.proofs.NumberLaws.{numbered_next}
use Rattle.constructions.proofs.relabelling.renumbering.Goals as goal

pub loop-i-preserved : goal.loop-i-preserved
loop-i-preserved c =
    numbered_next c.args.labels.now c.loop-i.pairs.items c.push.new.self.items c.args.greatest c.loop-i.i 0 c.loop-i-test.true c.loop-i.invariant c.in_ok-push.ensures.items
