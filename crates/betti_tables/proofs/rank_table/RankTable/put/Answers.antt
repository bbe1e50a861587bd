use Rattle.std.proofs.Common.{◌≡◌, ◌+◌, ◌<◌, false, length, ap, ◌∙◌, arith}
use Rattle.std.specs.Option.{is_some}
use Rattle.betti_tables.specs.Table.{kept, kept_count}
use Rattle.betti_tables.proofs.TableLaws.{count_set}
use Rattle.betti_tables.proofs.rank_table.RankTable.put.Goals as goal

pub returns-clause-counted : goal.returns-clause-counted
returns-clause-counted c =
    let ranks = c.self.inside.ranks in
    let k = c.args.k in
    let inside : k < length ranks = omega (arith, c.self.invariant, c.requires.inside) in
    let none : is_some (kept ranks k) ≡ false = ap (λ t. is_some (kept t k)) c.self.view_is ∙ c.requires.none in
    count_set ranks k c.args.rank inside none ∙ ap (λ t. kept_count t + 1) c.self.view_is
