use Rattle.std.proofs.Common.{rules, ◌∙◌, ap}
use Rattle.gf2_rank.specs.Ones.{ones}
use Rattle.gf2_rank.proofs.OnesLaws.{ones-replicate}
use Rattle.gf2_rank.proofs.column.Column.new.Goals as goal

pub returns-clause-empty : goal.returns-clause-empty
returns-clause-empty c = ap ones (c.in_ok-vec.ensures.items_if_clones_equal (search rules)) ∙ ones-replicate c.args.len
