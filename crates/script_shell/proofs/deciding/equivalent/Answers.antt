use Rattle.std.proofs.Common.{◌≡◌, true, is_ok, ◌∷◌, subst, sym, ap, ◌∙◌}
use Rattle.shell_names.specs.State.{Complex, present}
use Rattle.verdicts.specs.Tests.{equivalent_tests}
use Rattle.verdicts.specs.Verdicts.{equivalent_of}
use Rattle.script_shell.specs.Commands.{name_test, verdict_reply, verdict_tests}
use Rattle.script_shell.proofs.Refusals.{if_ok, on_ok}
use Rattle.script_shell.proofs.Replaying.{sound_yes}
use Rattle.script_shell.specs.Replays.{AreSound, certificate_of}
use Rattle.verdicts.specs.Sound.{CountedInVain, YesIsSound}
use Rattle.script_shell.proofs.Verdicts.{two_names, passes_as, stops_as, verdict_at}
use Rattle.script_shell.proofs.deciding.equivalent.Goals as goal

pub returns-clause-passed : goal.returns-clause-passed
returns-clause-passed c =
    let s = c.args.names.now in
    let x = c.args.left.now in
    let y = c.args.right.now in
    let d = c.in-Some.start.now in
    let e = c.in-Some-present.target.now in
    let tests = λ (a b : Complex). equivalent_tests a b c.args.budget in
    passes_as c.decided.result (verdict_tests (tests d e)) (name_test s x ∷ name_test s y ∷ verdict_tests (tests (present s x) (present s y)))
    (two_names s x y d e tests (sym c.in-Some.ensures.held) (sym c.in-Some-present.ensures.held) c.in-Some.ensures.value c.in-Some-present.ensures.value)
    (c.decided.ensures.passed (tests d e) c.equivalent.ensures.passed)

pub returns-clause-text : goal.returns-clause-text
returns-clause-text c =
    let d = c.in-Some.start.now in
    let e = c.in-Some-present.target.now in
    let reply = λ (a b : Complex). verdict_reply (equivalent_of a b c.args.budget c.args.seed) in
    if_ok c.decided.result _ _
    (λ t h. h ∙ ap (λ (a : Complex). reply a e) c.in-Some.ensures.value ∙ ap (λ (b : Complex). reply (present c.args.names.now c.args.left.now) b) c.in-Some-present.ensures.value)
    (c.decided.ensures.text (equivalent_of d e c.args.budget c.args.seed) c.equivalent.ensures.value)

pub returns-clause-refused : goal.returns-clause-refused
returns-clause-refused c =
    let s = c.args.names.now in
    let x = c.args.left.now in
    let y = c.args.right.now in
    let d = c.in-Some.start.now in
    let e = c.in-Some-present.target.now in
    let tests = λ (a b : Complex). equivalent_tests a b c.args.budget in
    stops_as c.decided.result (verdict_tests (tests d e)) (name_test s x ∷ name_test s y ∷ verdict_tests (tests (present s x) (present s y)))
    (two_names s x y d e tests (sym c.in-Some.ensures.held) (sym c.in-Some-present.ensures.held) c.in-Some.ensures.value c.in-Some-present.ensures.value)
    (c.decided.ensures.refused (tests d e) c.equivalent.ensures.faults)

pub returns-clause-sound : goal.returns-clause-sound
returns-clause-sound c =
    let verdict = λ (a b : Complex). equivalent_of a b c.args.budget c.args.seed in
    let d = c.in-Some.start.now in
    let e = c.in-Some-present.target.now in
    let x = present c.args.names.now c.args.left.now in
    let y = present c.args.names.now c.args.right.now in
    on_ok c.decided.result (YesIsSound (verdict d e)) (AreSound (certificate_of (verdict x y)))
    (λ h. sound_yes (verdict x y) (subst (λ (b : Complex). YesIsSound (verdict x b)) c.in-Some-present.ensures.value (subst (λ (a : Complex). YesIsSound (verdict a e)) c.in-Some.ensures.value h)))
    (c.decided.ensures.sound (verdict d e) c.equivalent.ensures.value)

pub returns-clause-vain : goal.returns-clause-vain
returns-clause-vain c =
    let vain = λ (a b : Complex). CountedInVain a b c.args.budget c.args.seed (equivalent_of a b c.args.budget c.args.seed) in
    let d = c.in-Some.start.now in
    let e = c.in-Some-present.target.now in
    let x = present c.args.names.now c.args.left.now in
    let y = present c.args.names.now c.args.right.now in
    on_ok c.decided.result (is_ok c.equivalent.result ≡ true) (vain x y)
    (λ h. subst (λ (b : Complex). vain x b) c.in-Some-present.ensures.value (subst (λ (a : Complex). vain a e) c.in-Some.ensures.value
    (verdict_at c.equivalent.result (equivalent_of d e c.args.budget c.args.seed) (CountedInVain d e c.args.budget c.args.seed) h c.equivalent.ensures.value c.equivalent.ensures.vain)))
    c.decided.ensures.given
