use Rattle.std.proofs.Common.{subst}
use Rattle.collapse_moves.specs.Collapses.{drop_face}
use Rattle.morse_lists.specs.Cells.{IsTableOf}
use Rattle.morse_lists.proofs.TableLaws.{complex_is, table_from, table_drop}
use Rattle.morse_lists.proofs.face_table.FaceTable.drop_facet.Goals as goal

pub invariant_of-self : goal.invariant_of-self
invariant_of-self c =
    let m = c.self.inside.cells in
    table_from (drop_face c.args.self.now c.args.f.now) c.remove.new.self
    (table_drop c.args.self.now c.args.f.now m c.lower.new.cells c.remove.new.self (subst (λ d. IsTableOf d m) c.self.view_is c.self.invariant) c.requires
    c.lower.ensures (λ s. c.remove.ensures.updates.0 s))

pub returns : goal.returns
returns c =
    let m = c.self.inside.cells in
    complex_is (drop_face c.args.self.now c.args.f.now) c.remove.new.self
    (table_drop c.args.self.now c.args.f.now m c.lower.new.cells c.remove.new.self (subst (λ d. IsTableOf d m) c.self.view_is c.self.invariant) c.requires
    c.lower.ensures (λ s. c.remove.ensures.updates.0 s))
