use Rattle.std.proofs.Common.{arith}
use Rattle.shell_names.proofs.StepLaws.{journal_sizes}
use Rattle.shell_names.proofs.entry.Entry.journal.Goals as goal

pub returns-clause-value : goal.returns-clause-value
returns-clause-value c =
    let inside = c.self.inside in
    let k = journal_sizes inside.name inside.past inside.present inside.future c.args.self.now c.self.view_is c.self.invariant in
    omega (arith, k, c.total.ensures, c.total-2.ensures)

pub returns-clause-few : goal.returns-clause-few
returns-clause-few c =
    let inside = c.self.inside in
    let k = journal_sizes inside.name inside.past inside.present inside.future c.args.self.now c.self.view_is c.self.invariant in
    omega (arith, k, c.self.invariant.few)
