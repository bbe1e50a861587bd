use Rattle.std.specs.HashMap.{get}
use Rattle.morse_lists.specs.Cells.{same}
use Rattle.morse_lists.proofs.CellLaws.{blank_more}
use Rattle.morse_lists.proofs.cells.blank_cells.Goals as goal

pub loop-face-preserved : goal.loop-face-preserved
loop-face-preserved c = λ s.
    blank_more c.args.faces.now c.loop-face.face-index c.face-item.result s (get same c.loop-face.cells s) (get same c.insert.new.self s)
    c.loop-face-test.true c.face-item.is (c.in_ok-insert.ensures.updates.0 s) (c.loop-face.invariant s)
