use Rattle.std.proofs.Common.{◌+◌, ap, ◌∙◌, arith}
use Rattle.std.specs.Prelude.{pos, ◌-ℤ◌}
use Rattle.facet_set.specs.Numbers.{face_count}
use Rattle.betti_tables.specs.Ranks.{rank_at}
use Rattle.betti_tables.proofs.BoundaryLaws.{ranks_fit_lem}
use Rattle.betti_tables.proofs.TableLaws.{kept_rank, number_is}
use Rattle.betti_tables.proofs.rank_table.RankTable.number.Goals as goal

pub overflow_add-boundaries : goal.overflow_add-boundaries
overflow_add-boundaries c =
    let low = c.rank.ensures ∙ kept_rank c.args.l.now.facets c.args.self.now c.args.k c.requires.ranks c.requires.all in
    let high = c.rank-2.ensures ∙ kept_rank c.args.l.now.facets c.args.self.now (c.args.k + 1) c.requires.ranks c.requires.all in
    omega (arith, ranks_fit_lem c.args.l.now.facets c.args.k c.requires.simplices, low, high, c.face_count-faces.ensures, c.face_count-faces.type_inv)

pub overflow_sub-result : goal.overflow_sub-result
overflow_sub-result c =
    let low = c.rank.ensures ∙ kept_rank c.args.l.now.facets c.args.self.now c.args.k c.requires.ranks c.requires.all in
    let high = c.rank-2.ensures ∙ kept_rank c.args.l.now.facets c.args.self.now (c.args.k + 1) c.requires.ranks c.requires.all in
    omega (arith, ranks_fit_lem c.args.l.now.facets c.args.k c.requires.simplices, low, high, c.face_count-faces.ensures)

pub returns : goal.returns
returns c =
    let l = c.args.l.now.facets in
    let k = c.args.k in
    let low = c.rank.ensures ∙ kept_rank l c.args.self.now k c.requires.ranks c.requires.all in
    let high = c.rank-2.ensures ∙ kept_rank l c.args.self.now (k + 1) c.requires.ranks c.requires.all in
    number_is c.face_count-faces.result c.rank.result c.rank-2.result (omega (arith, ranks_fit_lem l k c.requires.simplices, low, high, c.face_count-faces.ensures))
    ∙ ap (λ f. pos f -ℤ pos c.rank.result -ℤ pos c.rank-2.result) c.face_count-faces.ensures
    ∙ ap (λ r. pos (face_count l (k + 1)) -ℤ pos r -ℤ pos c.rank-2.result) low
    ∙ ap (λ r. pos (face_count l (k + 1)) -ℤ pos (rank_at l k) -ℤ pos r) high
