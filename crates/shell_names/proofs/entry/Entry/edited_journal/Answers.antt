use Rattle.std.proofs.Common.{arith}
use Rattle.shell_names.proofs.StepLaws.{edited_sizes}
use Rattle.shell_names.proofs.entry.Entry.edited_journal.Goals as goal

pub returns : goal.returns
returns c =
    let inside = c.self.inside in
    let k = edited_sizes inside.name inside.past inside.present inside.future c.args.self.now c.args.next.now c.self.view_is c.self.invariant.past_measured in
    omega (arith, k, c.in_ok-size.ensures, c.total.ensures, c.saturating_add.ensures)
