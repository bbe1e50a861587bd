use Rattle.shellings.proofs.RowLaws.{raised}
use Rattle.shellings.proofs.rows.raise.Goals as goal

pub returns-clause-value : goal.returns-clause-value
returns-clause-value c = raised c.args.row.now.at c.args.row.now.len c.args.k c.requires.place c.requires.sign c.requires.room
