use Rattle.std.proofs.Common.{◌+◌, ap, ◌∙◌, map}
use Rattle.std.specs.Prelude.{pos}
use Rattle.betti_tables.specs.Betti.{numbers}
use Rattle.betti_tables.proofs.TableLaws.{numbers_more}
use Rattle.betti_tables.proofs.rank_table.RankTable.numbers.Goals as goal

pub loop-k-preserved : goal.loop-k-preserved
loop-k-preserved c =
    record {
      value = ap (map pos) c.push.ensures.value ∙ numbers_more c.args.l.now.facets (numbers c.loop-k.betti) c.number.result c.loop-k.k c.number.ensures c.loop-k.invariant.value;
      len = c.push.ensures.len ∙ ap (λ n. n + 1) c.loop-k.invariant.len;
    }
