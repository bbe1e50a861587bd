use Rattle.std.proofs.Common.{◌≡◌, true, is_ok, ◌∷◌, subst, sym, ap, ◌∙◌}
use Rattle.shell_names.specs.State.{Complex, present}
use Rattle.verdicts.specs.Tests.{manifold_tests}
use Rattle.verdicts.specs.Verdicts.{manifold_of}
use Rattle.script_shell.specs.Commands.{name_test, verdict_reply, verdict_tests}
use Rattle.script_shell.proofs.Refusals.{if_ok, on_ok}
use Rattle.script_shell.proofs.Replaying.{sound_yes}
use Rattle.script_shell.specs.Replays.{AreSound, certificate_of}
use Rattle.verdicts.specs.Sound.{UndecidedInVain, YesIsSound}
use Rattle.script_shell.proofs.Verdicts.{one_name, passes_as, stops_as, verdict_at}
use Rattle.script_shell.proofs.deciding.manifold.Goals as goal

pub returns-clause-passed : goal.returns-clause-passed
returns-clause-passed c =
    let s = c.args.names.now in
    let x = c.args.name.now in
    let d = c.in-Some.complex.now in
    let tests = λ (e : Complex). manifold_tests e c.args.budget in
    passes_as c.decided.result (verdict_tests (tests d)) (name_test s x ∷ verdict_tests (tests (present s x)))
    (one_name s x d tests (sym c.in-Some.ensures.held) c.in-Some.ensures.value) (c.decided.ensures.passed (tests d) c.manifold.ensures.passed)

pub returns-clause-text : goal.returns-clause-text
returns-clause-text c =
    let reply = λ (e : Complex). verdict_reply (manifold_of e c.args.budget c.args.seed) in
    if_ok c.decided.result _ _ (λ t h. h ∙ ap reply c.in-Some.ensures.value) (c.decided.ensures.text (manifold_of c.in-Some.complex.now c.args.budget c.args.seed) c.manifold.ensures.value)

pub returns-clause-refused : goal.returns-clause-refused
returns-clause-refused c =
    let s = c.args.names.now in
    let x = c.args.name.now in
    let d = c.in-Some.complex.now in
    let tests = λ (e : Complex). manifold_tests e c.args.budget in
    stops_as c.decided.result (verdict_tests (tests d)) (name_test s x ∷ verdict_tests (tests (present s x)))
    (one_name s x d tests (sym c.in-Some.ensures.held) c.in-Some.ensures.value) (c.decided.ensures.refused (tests d) c.manifold.ensures.faults)

pub returns-clause-sound : goal.returns-clause-sound
returns-clause-sound c =
    let verdict = λ (e : Complex). manifold_of e c.args.budget c.args.seed in
    let d = c.in-Some.complex.now in
    let e = present c.args.names.now c.args.name.now in
    on_ok c.decided.result (YesIsSound (verdict d)) (AreSound (certificate_of (verdict e)))
    (λ h. sound_yes (verdict e) (subst (λ (x : Complex). YesIsSound (verdict x)) c.in-Some.ensures.value h)) (c.decided.ensures.sound (verdict d) c.manifold.ensures.value)

pub returns-clause-vain : goal.returns-clause-vain
returns-clause-vain c =
    let verdict = λ (e : Complex). manifold_of e c.args.budget c.args.seed in
    let d = c.in-Some.complex.now in
    let e = present c.args.names.now c.args.name.now in
    on_ok c.decided.result (is_ok c.manifold.result ≡ true) (UndecidedInVain e c.args.budget c.args.seed (verdict e))
    (λ h. subst (λ (x : Complex). UndecidedInVain x c.args.budget c.args.seed (verdict x)) c.in-Some.ensures.value
    (verdict_at c.manifold.result (verdict d) (UndecidedInVain d c.args.budget c.args.seed) h c.manifold.ensures.value c.manifold.ensures.vain))
    c.decided.ensures.given
