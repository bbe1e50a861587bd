use Rattle.std.proofs.Common.{◌≡◌, ℕ, List, ap, ◌∙◌}
use Rattle.std.specs.HashMap.{get}
use Rattle.facet_set.specs.Complex.{faces}
use Rattle.morse_lists.specs.Cells.{same, cell_at}
use Rattle.morse_lists.proofs.TableLaws.{complex_is, table_from}
use Rattle.morse_lists.proofs.face_table.FaceTable.of.Goals as goal

pub invariant_of-result : goal.invariant_of-result
invariant_of-result c =
    let kept : (s : List ℕ) → get same c.in_ok-cells.cells s ≡ cell_at (faces c.args.c.now) s = λ s. c.in_ok-cells.ensures s ∙ ap (λ l. cell_at l s) (c.deref.ensures.value ∙ c.in_ok-faces.ensures.value) in
    table_from c.args.c.now c.in_ok-cells.cells (record { facets = c.all_faces.ensures.facets; cells = kept })

pub returns-clause-value : goal.returns-clause-value
returns-clause-value c =
    let kept : (s : List ℕ) → get same c.in_ok-cells.cells s ≡ cell_at (faces c.args.c.now) s = λ s. c.in_ok-cells.ensures s ∙ ap (λ l. cell_at l s) (c.deref.ensures.value ∙ c.in_ok-faces.ensures.value) in
    complex_is c.args.c.now c.in_ok-cells.cells (record { facets = c.all_faces.ensures.facets; cells = kept })
