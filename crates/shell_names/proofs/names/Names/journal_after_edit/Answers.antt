use Rattle.std.proofs.Common.{ap, ◌∙◌, ◌^◌, ◌-◌, min}
use Rattle.shell_names.specs.State.{Named, edited, entry, journal_of}
use Rattle.shell_names.proofs.StateLaws.{journal_after, entry_name}
use Rattle.shell_names.proofs.names.Names.journal_after_edit.Goals as goal

pub returns-in_ok-edited-in-Some : goal.returns-in_ok-edited-in-Some
returns-in_ok-edited-in-Some c =
    let s = c.args.self.now in
    let x = c.args.name.now in
    let k = ap (λ (n : Named). min (journal_of (edited n c.args.next.now)) (2 ^ 64 - 1)) c.in-Some.ensures.1 in
    journal_after s x (edited (entry s x) c.args.next.now) _ _ _ (entry_name s x) c.journal_without.ensures (c.in_ok-edited-in-Some.ensures ∙ k) c.saturating_add.ensures
