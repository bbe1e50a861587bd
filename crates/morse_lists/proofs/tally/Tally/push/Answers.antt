use Rattle.morse_lists.proofs.ListLaws.{filled_push}
use Rattle.morse_lists.proofs.tally.Tally.push.Goals as goal

pub invariant_of-self : goal.invariant_of-self
invariant_of-self c = record { filled = filled_push c.args.self.now.at c.args.self.now.len _ c.args.self.now.filled c.requires }
