use Rattle.std.proofs.Common.{◌++◌, [], ◌∷◌, sym, ap, ◌∙◌, subst, map, take}
use Rattle.simplex.specs.Members.{In}
use Rattle.simplex.specs.Simplex.{without}
use Rattle.betti_tables.specs.Boundary.{IsWritten}
use Rattle.betti_tables.proofs.NameLaws.{written_none, written_more, labels_more, labels_all, row_found}
use Rattle.betti_tables.proofs.boundary.write_column.Goals as goal

pub place_of-row-requires-clause-found : goal.place_of-row-requires-clause-found
place_of-row-requires-clause-found c =
    subst (λ t. In t c.args.rows.now) (sym c.without.ensures.value)
    (row_found c.args.rows.now c.args.s.now c.labels-label-items.result.now c.loop-label.label-index 0 c.labels-label-items.ensures.value c.loop-label-test.true c.requires.found)

pub loop-label-init : goal.loop-label-init
loop-label-init c = written_none c.args.rows.now c.args.col c.args.matrix.now c.requires.empty

pub loop-label-preserved : goal.loop-label-preserved
loop-label-preserved c =
    let s = c.args.s.now in
    let items = c.labels-label-items.result.now in
    let i = c.loop-label.label-index in
    let t = c.without.result in
    subst (λ xs. IsWritten c.args.rows.now xs c.args.col c.args.matrix.now c.set.new.self) (ap (λ x. map (without s) (take i items) ++ x ∷ []) c.without.ensures.value ∙ sym (labels_more s items i 0 c.labels-label-items.ensures.value c.loop-label-test.true))
    (subst (λ m. IsWritten c.args.rows.now (map (without s) (take i items) ++ t ∷ []) c.args.col c.args.matrix.now m) (sym c.set.ensures)
    (written_more c.args.rows.now (map (without s) (take i items)) c.args.col c.place_of-row.result t c.args.matrix.now c.loop-label.matrix c.requires.found.rising c.place_of-row.ensures.inside c.place_of-row.ensures.here c.requires.col c.loop-label.invariant))

pub returns : goal.returns
returns c =
    subst (λ xs. IsWritten c.args.rows.now xs c.args.col c.args.matrix.now c.loop-label.matrix)
    (labels_all c.args.s.now c.labels-label-items.result.now c.loop-label.label-index c.labels-label-items.ensures.value c.loop-label-test.false)
    c.loop-label.invariant
