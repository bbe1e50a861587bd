use Rattle.std.proofs.Common.{◌∙◌, subst}
use Rattle.morse_lists.specs.Queues.{Waits}
use Rattle.morse_lists.proofs.GreedyLaws.{below_more}
use Rattle.morse_lists.proofs.greedy.Search.add_below.Goals as goal

pub loop-label-preserved : goal.loop-label-preserved
loop-label-preserved c =
    let new = c.add.new.self in
    let told = c.in_ok-add.ensures in
    let kept = c.loop-label.invariant in
    record {
      faces = c.add.ensures.faces ∙ kept.faces;
      free_stay = λ t i. told.free_stay t (kept.free_stay t i);
      tops_stay = λ t i. told.tops_stay t (kept.tops_stay t i);
      below = below_more c.args.face.now c.labels-label-items.result.now c.without.result c.loop-label.label-index c.args.self.now.faces c.loop-label.self.free c.loop-label.self.tops new.free new.tops
          c.labels-label-items.ensures.value c.loop-label-test.true c.without.ensures.value told.free_stay told.tops_stay
          (subst (λ x. Waits x new.free new.tops c.without.result) kept.faces told.waits) kept.below;
    }
