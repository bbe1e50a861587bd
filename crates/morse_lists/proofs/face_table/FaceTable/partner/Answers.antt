use Rattle.std.proofs.Common.{subst, ◌∙◌}
use Rattle.morse_lists.specs.Cells.{IsTableOf}
use Rattle.morse_lists.proofs.TableLaws.{partner_some, partner_none, partner_fits}
use Rattle.morse_lists.proofs.face_table.FaceTable.partner.Goals as goal

pub partner_by-requires-clause-label : goal.partner_by-requires-clause-label
partner_by-requires-clause-label c = λ n.
    let m = c.self.inside.cells in
    (partner_fits c.args.self.now m (subst (λ d. IsTableOf d m) c.self.view_is c.self.invariant) c.args.s.now c.in-Some.cell.now c.in-Some.ensures.value n).0

pub partner_by-requires-clause-short : goal.partner_by-requires-clause-short
partner_by-requires-clause-short c = λ n.
    let m = c.self.inside.cells in
    (partner_fits c.args.self.now m (subst (λ d. IsTableOf d m) c.self.view_is c.self.invariant) c.args.s.now c.in-Some.cell.now c.in-Some.ensures.value n).1

pub returns-in-Some : goal.returns-in-Some
returns-in-Some c =
    let m = c.self.inside.cells in
    c.partner_by.ensures ∙ partner_some c.args.self.now m (subst (λ d. IsTableOf d m) c.self.view_is c.self.invariant) c.args.s.now c.in-Some.cell.now c.in-Some.ensures.value

pub returns-in-None : goal.returns-in-None
returns-in-None c =
    let m = c.self.inside.cells in
    partner_none c.args.self.now m (subst (λ d. IsTableOf d m) c.self.view_is c.self.invariant) c.args.s.now c.len.ensures.simplex c.in-None.ensures.value
