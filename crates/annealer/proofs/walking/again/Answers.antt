use Rattle.annealer.proofs.WalkLaws.{again_next}
use Rattle.annealer.proofs.walking.again.Goals as goal

pub loop-flip-preserved : goal.loop-flip-preserved
loop-flip-preserved g c =
    again_next c.args.start.now c.args.flips.now c.loop-flip.flip-index c.loop-flip.session c.make.new.session c.flip-item.result c.loop-flip-test.true c.flip-item.is c.loop-flip.invariant c.in_ok-make.ensures.value
