use Rattle.std.proofs.Common.{◌≡◌, false, ◌∙◌, sym, subst}
use Rattle.shell_names.specs.State.{State, holds}
use Rattle.shell_names.proofs.StateLaws.{put_of_none}
use Rattle.shell_names.proofs.names.put.Goals as goal

pub returns-in_ok-push-in-None-clause-ok : goal.returns-in_ok-push-in-None-clause-ok
returns-in_ok-push-in-None-clause-ok c =
    let s = c.args.entries.now.items in
    let x = c.args.name.now in
    let none : holds s x ≡ false = subst (λ (t : State). holds t x ≡ false) c.deref.ensures.value c.in-None.ensures in
    c.in_ok-push-in-None.ensures.items ∙ sym (put_of_none s x c.args.entry c.requires none)
