use Rattle.std.proofs.Common.{refl, ◌∙◌}
use Rattle.face_lattice.proofs.LossLaws.{minus_none, minus_step}
use Rattle.face_lattice.proofs.cell.take_out.Goals as goal

pub loop-label-init : goal.loop-label-init
loop-label-init c = record { labels = minus_none c.args.up.now.items; rising = c.requires; capacity = refl }

pub loop-label-preserved : goal.loop-label-preserved
loop-label-preserved c = record {
  labels = minus_step c.args.up.now.items c.labels-label-items.result.now c.loop-label.up.items _ c.loop-label.label-index 0 c.loop-label-test.true c.loop-label.invariant.labels c.take_label.ensures.labels;
  rising = c.take_label.ensures.rising;
  capacity = c.take_label.ensures.capacity ∙ c.loop-label.invariant.capacity;
}
