use Rattle.std.specs.HashMap.{get}
use Rattle.std.specs.List.{list_any}
use Rattle.morse_lists.specs.Cells.{same}
use Rattle.morse_lists.proofs.CellLaws.{face_more}
use Rattle.morse_lists.proofs.cells.cells_of.Goals as goal

pub loop-face-preserved : goal.loop-face-preserved
loop-face-preserved c = λ s.
    face_more c.args.faces.now c.loop-face.face-index c.face-item.result s (get same c.loop-face.cells s) (get same c.raise.new.cells s) (list_any (same s) c.args.faces.now)
    c.loop-face-test.true c.face-item.is (c.in_ok-raise.ensures s) (c.loop-face.invariant s)
