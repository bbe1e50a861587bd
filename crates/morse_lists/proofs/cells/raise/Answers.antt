use Rattle.std.specs.HashMap.{get}
use Rattle.morse_lists.specs.Cells.{same, more, with_labels}
use Rattle.morse_lists.proofs.CellLaws.{label_more, with_more}
use Rattle.morse_lists.proofs.cells.raise.Goals as goal

pub loop-label-preserved : goal.loop-label-preserved
loop-label-preserved c =
    label_more more with_labels with_more c.args.face.now c.labels-label-items.result.now c.without.result c.loop-label.label-index
    (get same c.args.cells.now) (get same c.loop-label.cells) (get same c.raise_at.new.cells)
    c.labels-label-items.ensures.value c.loop-label-test.true c.without.ensures.value c.in_ok-raise_at.ensures c.loop-label.invariant
