use Rattle.std.proofs.Common.{◌≡◌, ◌≤◌, ◌+◌, arith}
use Rattle.facet_set.specs.Change.{apart}
use Rattle.shell_names.specs.Limits.{journal_limit}
use Rattle.shell_names.specs.Steps.{sizes}
use Rattle.shell_names.proofs.StepLaws.{edited_sizes, edited_entry}
use Rattle.shell_names.proofs.entry.Entry.edit.Goals as goal

pub invariant_of-self-2 : goal.invariant_of-self-2
invariant_of-self-2 c =
    let inside = c.self.inside in
    let k = edited_sizes inside.name inside.past inside.present inside.future c.args.self.now c.args.next c.self.view_is c.self.invariant.past_measured in
    let few : apart inside.present c.args.next + sizes inside.past ≤ journal_limit = omega (arith, k, c.requires) in
    let size : c.in_ok-size.size ≡ apart inside.present c.args.next = omega (arith, few, c.in_ok-size.ensures) in
    rw (c.in_ok-advance.ensures.steps, c.in_ok-advance.ensures.present, c.clear.ensures) (edited_entry inside.present c.args.next inside.past inside.future _ c.self.invariant size few)
