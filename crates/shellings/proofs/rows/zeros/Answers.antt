use Rattle.std.proofs.Common.{pos}
use Rattle.std.proofs.lemmas.List.{take-replicate, drop-replicate}
use Rattle.shellings.proofs.rows.zeros.Goals as goal

pub invariant_of-result : goal.invariant_of-result
invariant_of-result c = record { filled = record { short = c.requires; rest = drop-replicate c.args.len 13 (pos 0) } }

pub returns-clause-value : goal.returns-clause-value
returns-clause-value c = take-replicate c.args.len 13 (pos 0) c.requires
