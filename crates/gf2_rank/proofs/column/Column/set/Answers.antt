use Rattle.gf2_rank.proofs.OnesLaws.{ones-set}
use Rattle.gf2_rank.proofs.column.Column.set.Goals as goal

pub returns-clause-value : goal.returns-clause-value
returns-clause-value c = ones-set c.args.self.now.words.items c.args.row c.index_mut.result.now c.requires c.index_mut.ensures.value
