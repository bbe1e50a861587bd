use Rattle.std.proofs.Common.{subst}
use Rattle.morse_lists.specs.Cells.{IsTableOf}
use Rattle.morse_lists.proofs.TableLaws.{bare_some, bare_none}
use Rattle.morse_lists.proofs.face_table.FaceTable.is_bare.Goals as goal

pub returns-in-Some : goal.returns-in-Some
returns-in-Some c =
    bare_some c.args.self.now c.self.inside.cells (subst (λ d. IsTableOf d c.self.inside.cells) c.self.view_is c.self.invariant) c.in-Some.cell.now c.in-Some.ensures.value

pub returns-in-None : goal.returns-in-None
returns-in-None c =
    bare_none c.args.self.now c.self.inside.cells (subst (λ d. IsTableOf d c.self.inside.cells) c.self.view_is c.self.invariant) c.in-None.ensures.value
