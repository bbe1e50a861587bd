use Rattle.std.proofs.Common.{◌≡◌, None, sym, ap, subst}
use Rattle.std.specs.Prelude.{IfOk, OnOk}
use Rattle.simplex.specs.FirstFailing.{first_failing}
use Rattle.script_text.specs.declared.command.Command.{Command}
use Rattle.shell_names.specs.State.{State, present}
use Rattle.verdicts.specs.Sound.{CountedInVain}
use Rattle.verdicts.specs.Verdicts.{equivalent_of}
use Rattle.script_shell.specs.Commands.{assignment, changing, equivalent, making, meaning}
use Rattle.script_shell.specs.InVain.{VerdictInVain}
use Rattle.script_shell.specs.Replays.{AreSound, certificate_for, certificate_of}
use Rattle.script_shell.specs.declared.limits.Limits.{Limits}
use Rattle.script_shell.proofs.Holding.{assigned, changing_within, kept_within}
use Rattle.script_shell.proofs.shell.Shell.obey.Goals as goal

pub returns-in-Make-clause-within : goal.returns-in-Make-clause-within
returns-in-Make-clause-within c =
    let limits = c.self.inside.limits in
    let s = c.self.inside.names in
    let x = c.in-Make.name in
    let m = making s c.in-Make.maker in
    kept_within c.assign.result limits s c.assign.new.names (assignment limits s x m).after (first_failing (assignment limits s x m).tests ≡ None) c.self.invariant.within
    (assigned limits s x c.self.invariant.within m) c.assign.ensures.passed c.assign.ensures.state c.assign.ensures.err

pub invariant_of-self : goal.invariant_of-self
invariant_of-self c =
    let limits = c.self.inside.limits in
    let s = c.self.inside.names in
    let x = c.in-Make.name in
    let m = making s c.in-Make.maker in
    record {
      standard = c.self.invariant.standard;
      within =
          kept_within c.assign.result limits s c.assign.new.names (assignment limits s x m).after (first_failing (assignment limits s x m).tests ≡ None) c.self.invariant.within
          (assigned limits s x c.self.invariant.within m) c.assign.ensures.passed c.assign.ensures.state c.assign.ensures.err;
    }

pub returns-in-Change-clause-within : goal.returns-in-Change-clause-within
returns-in-Change-clause-within c =
    let limits = c.self.inside.limits in
    let s = c.self.inside.names in
    let x = c.in-Change.name in
    let e = c.in-Change.edit in
    kept_within c.change.result limits s c.change.new.names (changing limits s x e).after (first_failing (changing limits s x e).tests ≡ None) c.self.invariant.within
    (changing_within limits s x c.self.invariant.within e) c.change.ensures.passed c.change.ensures.state c.change.ensures.err

pub invariant_of-self-in-Change : goal.invariant_of-self-in-Change
invariant_of-self-in-Change c =
    let limits = c.self.inside.limits in
    let s = c.self.inside.names in
    let x = c.in-Change.name in
    let e = c.in-Change.edit in
    record {
      standard = c.self.invariant.standard;
      within =
          kept_within c.change.result limits s c.change.new.names (changing limits s x e).after (first_failing (changing limits s x e).tests ≡ None) c.self.invariant.within
          (changing_within limits s x c.self.invariant.within e) c.change.ensures.passed c.change.ensures.state c.change.ensures.err;
    }

pub returns-in-Equivalent-clause-text : goal.returns-in-Equivalent-clause-text
returns-in-Equivalent-clause-text c =
    let k = c.in-Equivalent in
    let r = c.equivalent.result in
    subst (λ (k : Command). IfOk r (λ text. text ≡ (meaning c.args.self.now.1 c.args.self.now.0 k).reply)) (sym k.is)
    (subst (λ (s : State). IfOk r (λ text. text ≡ (equivalent s k.left k.right k.budget k.seed).reply)) (ap (λ (p : State × Limits). p.0) c.self.view_is) c.equivalent.ensures.text)

pub returns-in-Equivalent-clause-sound : goal.returns-in-Equivalent-clause-sound
returns-in-Equivalent-clause-sound c =
    let k = c.in-Equivalent in
    let r = c.equivalent.result in
    subst (λ (k : Command). OnOk r (AreSound (certificate_for c.args.self.now.0 k))) (sym k.is)
    (subst (λ (s : State). OnOk r (AreSound (certificate_of (equivalent_of (present s k.left) (present s k.right) k.budget k.seed)))) (ap (λ (p : State × Limits). p.0) c.self.view_is) c.equivalent.ensures.sound)

pub returns-in-Equivalent-clause-vain : goal.returns-in-Equivalent-clause-vain
returns-in-Equivalent-clause-vain c =
    let k = c.in-Equivalent in
    let r = c.equivalent.result in
    subst (λ (k : Command). OnOk r (VerdictInVain c.args.self.now.0 k)) (sym k.is)
    (subst (λ (s : State). OnOk r (CountedInVain (present s k.left) (present s k.right) k.budget k.seed (equivalent_of (present s k.left) (present s k.right) k.budget k.seed))) (ap (λ (p : State × Limits). p.0) c.self.view_is) c.equivalent.ensures.vain)
