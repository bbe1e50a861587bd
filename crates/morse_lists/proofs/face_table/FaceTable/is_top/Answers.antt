use Rattle.std.proofs.Common.{subst}
use Rattle.morse_lists.specs.Cells.{IsTableOf}
use Rattle.morse_lists.proofs.TableLaws.{top_some, top_none}
use Rattle.morse_lists.proofs.face_table.FaceTable.is_top.Goals as goal

pub returns-then-not-is_empty : goal.returns-then-not-is_empty
returns-then-not-is_empty c =
    top_some c.args.self.now c.self.inside.cells (subst (λ d. IsTableOf d c.self.inside.cells) c.self.view_is c.self.invariant) c.args.s.now c.in-Some.cell.now
    c.in-Some.ensures.value c.if-not-is_empty.ensures

pub returns-in-None : goal.returns-in-None
returns-in-None c =
    top_none c.args.self.now c.self.inside.cells (subst (λ d. IsTableOf d c.self.inside.cells) c.self.view_is c.self.invariant) c.args.s.now c.in-None.ensures.value
