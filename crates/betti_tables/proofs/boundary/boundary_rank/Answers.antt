use Rattle.std.proofs.Common.{sym, ap, ◌∙◌, subst, map, arith}
use Rattle.simplex.specs.Members.{In}
use Rattle.simplex.specs.Simplex.{simplex_cmp}
use Rattle.gf2_rank.specs.Span.{rank}
use Rattle.gf2_rank.proofs.PlaceLaws.{places_lem}
use Rattle.betti_tables.specs.Boundary.{HasRows}
use Rattle.betti_tables.specs.Ranks.{column}
use Rattle.betti_tables.proofs.BoundaryLaws.{rank_above}
use Rattle.betti_tables.proofs.FaceLaws.{has_rows}
use Rattle.betti_tables.proofs.boundary.boundary_rank.Goals as goal

pub boundaries-requires-clause-found : goal.boundaries-requires-clause-found
boundaries-requires-clause-found g c =
    let l = c.args.l.now.facets in
    let k = c.args.k in
    λ s i.
    subst (λ rows. HasRows rows s) (sym (c.as_slice.ensures ∙ c.in_ok-rows.ensures))
    (has_rows l k s c.requires.simplices (subst (In s) (c.as_slice-2.ensures ∙ c.in_ok-columns.ensures) i))

pub returns-clause-value : goal.returns-clause-value
returns-clause-value g c =
    let l = c.args.l.now.facets in
    let k = c.args.k in
    c.rank.ensures.value
    ∙ sym (places_lem c.as_slice.result.now c.in_ok-matrix.matrix.columns (map column c.as_slice-2.result.now) c.in_ok-matrix.ensures)
    ∙ ap (λ ss. rank simplex_cmp (map column ss)) (c.as_slice-2.ensures ∙ c.in_ok-columns.ensures)
    ∙ sym (rank_above l k (omega (arith, c.requires.low)))
