use Rattle.std.proofs.Common.{ap, ◌∙◌, ◌^◌, ◌-◌, min}
use Rattle.facet_set.specs.Numbers.{weight}
use Rattle.shell_names.specs.State.{Named, undone, entry}
use Rattle.shell_names.proofs.StateLaws.{sums_of, weight_after, weight_after_none, entry_of_none, undone_name}
use Rattle.shell_names.proofs.names.Names.weight_after_undo.Goals as goal

pub returns-in-Some : goal.returns-in-Some
returns-in-Some c =
    let s = c.args.self.now in
    let x = c.args.name.now in
    let k = ap (λ (n : Named). min (weight (undone n).present) (2 ^ 64 - 1)) c.in-Some.ensures.1 in
    weight_after s x (undone (entry s x)) _ _ _ (undone_name s x) c.weight_without.ensures (c.undone_weight.ensures ∙ k) c.saturating_add.ensures

pub returns-in-None : goal.returns-in-None
returns-in-None c =
    let s = c.args.self.now in
    let x = c.args.name.now in
    let sums = sums_of _ s c.self.inside.weight c.self.inside.journal c.self.view_is c.self.invariant in
    weight_after_none s x (undone (entry s x)) _ _ sums (ap undone (entry_of_none s x c.in-None.ensures)) c.in-None.ensures
