use Rattle.std.proofs.Common.{length, rules}
use Rattle.gf2_rank.specs.Ones.{ones}
use Rattle.gf2_rank.proofs.ColumnSteps.{cleared_more}
use Rattle.gf2_rank.proofs.matrix.clear_all.Goals as goal

pub loop-column-preserved : goal.loop-column-preserved
loop-column-preserved c =
    cleared_more c.args.row (length c.args.pivot.now.words.items) (ones c.args.pivot.now.words.items) c.args.columns.now c.loop-column.columns c.loop-column.column-index
    c.column-item.result c.clear.new.self (search rules) (search rules) c.clear.ensures.value c.clear.ensures.len c.loop-column.invariant
