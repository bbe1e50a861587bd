use Rattle.std.proofs.Common.{refl}
use Rattle.shell_names.specs.State.{named, edited, entry}
use Rattle.shell_names.proofs.StateLaws.{weight_after, entry_name}
use Rattle.shell_names.proofs.names.Names.weight_after.Goals as goal

pub returns-clause-assigned : goal.returns-clause-assigned
returns-clause-assigned c =
    weight_after c.args.self.now c.args.name.now (named c.args.name.now c.args.next.now) _ _ _ refl c.weight_without.ensures c.weight.ensures c.saturating_add.ensures

pub returns-clause-edited : goal.returns-clause-edited
returns-clause-edited c =
    let s = c.args.self.now in
    let x = c.args.name.now in
    weight_after s x (edited (entry s x) c.args.next.now) _ _ _ (entry_name s x) c.weight_without.ensures c.weight.ensures c.saturating_add.ensures
