use Rattle.std.proofs.Common.{◌≡◌, rules, List, ℕ, false, ◌+◌, ◌++◌, ◌||◌, sym, subst}
use Rattle.script_shell.specs.InVain.{AreInVain}
use Rattle.script_shell.specs.Replays.{AreSound, certificates_from}
use Rattle.script_shell.specs.Transcript.{Run, cut_from, refuses, replies, start}
use Rattle.script_shell.proofs.InVain.{vain_end, vain_next}
use Rattle.script_shell.proofs.Replaying.{refuses_next, replays_all, sound_end, sound_next, take_rest, text_next}
use Rattle.script_shell.proofs.transcript.transcript.Goals as goal

pub loop-len-preserved : goal.loop-len-preserved
loop-len-preserved c =
    let r : Run = record { count = c.loop-len.session.count; state = c.loop-len.session.shell.0 } in
    let q : Run = record { count = c.answer.new.self.count; state = c.answer.new.self.shell.0 } in
    let rest = c.loop-len.rest.now in
    let n = c.in-Some.len in
    record {
      text =
          subst (λ (xs : List ℕ). c.answer.new.self.text ++ replies q (cut_from false xs).ended (cut_from false xs).rest ≡ replies start (cut_from false c.args.bytes.now).ended (cut_from false c.args.bytes.now).rest) (sym (take_rest rest (n + 1)))
          (text_next rest n r q c.loop-len.session.text c.answer.new.self.text (replies start (cut_from false c.args.bytes.now).ended (cut_from false c.args.bytes.now).rest) c.in-Some.ensures.cut c.in_ok-answer.ensures.run c.in_ok-answer.ensures.text c.loop-len.invariant.text);
      refusing =
          subst (λ (xs : List ℕ). (c.answer.new.self.refusing || refuses q (cut_from false xs).ended (cut_from false xs).rest) ≡ refuses start (cut_from false c.args.bytes.now).ended (cut_from false c.args.bytes.now).rest) (sym (take_rest rest (n + 1)))
          (refuses_next rest n r q c.loop-len.session.refusing c.answer.new.self.refusing (refuses start (cut_from false c.args.bytes.now).ended (cut_from false c.args.bytes.now).rest) c.in-Some.ensures.cut c.in_ok-answer.ensures.run c.in_ok-answer.ensures.refusing c.loop-len.invariant.refusing);
      count = search rules;
      standard = search rules;
      sound = λ h. sound_next rest n r q (AreSound (certificates_from start (cut_from false c.args.bytes.now).ended)) c.in-Some.ensures.cut c.in_ok-answer.ensures.run c.in_ok-answer.ensures.sound c.loop-len.invariant.sound
          (subst (λ (xs : List ℕ). AreSound (certificates_from q (cut_from false xs).ended)) (take_rest rest (n + 1)) h);
      in_vain = λ h. vain_next rest n r q (AreInVain start (cut_from false c.args.bytes.now).ended) c.in-Some.ensures.cut c.in_ok-answer.ensures.run c.in_ok-answer.ensures.in_vain c.loop-len.invariant.in_vain
          (subst (λ (xs : List ℕ). AreInVain q (cut_from false xs).ended) (take_rest rest (n + 1)) h);
    }

pub returns-clause-replays : goal.returns-clause-replays
returns-clause-replays c =
    let r : Run = record { count = c.loop-len.session.count; state = c.loop-len.session.shell.0 } in
    replays_all c.args.bytes.now
    (sound_end c.loop-len.rest.now r (AreSound (certificates_from start (cut_from false c.args.bytes.now).ended)) c.in_default.ensures.uncut c.loop-len.invariant.sound)

pub returns-clause-in_vain : goal.returns-clause-in_vain
returns-clause-in_vain c =
    let r : Run = record { count = c.loop-len.session.count; state = c.loop-len.session.shell.0 } in
    vain_end c.loop-len.rest.now r (AreInVain start (cut_from false c.args.bytes.now).ended) c.in_default.ensures.uncut c.loop-len.invariant.in_vain
