use Rattle.std.specs.HashMap.{get}
use Rattle.morse_lists.specs.Cells.{same, less, without_labels}
use Rattle.morse_lists.proofs.CellLaws.{label_more, without_more}
use Rattle.morse_lists.proofs.cells.lower.Goals as goal

pub loop-label-preserved : goal.loop-label-preserved
loop-label-preserved c =
    label_more less without_labels without_more c.args.face.now c.labels-label-items.result.now c.without.result c.loop-label.label-index
    (get same c.args.cells.now) (get same c.loop-label.cells) (get same c.lower_at.new.cells)
    c.labels-label-items.ensures.value c.loop-label-test.true c.without.ensures.value c.lower_at.ensures c.loop-label.invariant
