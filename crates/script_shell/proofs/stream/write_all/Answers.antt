use Rattle.std.proofs.Common.{◌≤◌, ℕ, List, take, drop, ◌-◌, length, arith, ◌∙◌, subst, length-take}
use Rattle.run_ends.specs.Ends.{Grows}
use Rattle.run_ends.proofs.EndLaws.{grows_twice}
use Rattle.script_shell.proofs.Streaming.{ok_no_err, two_fronts}
use Rattle.script_shell.proofs.stream.write_all.Goals as goal

pub loop-at-preserved : goal.loop-at-preserved
loop-at-preserved g c =
    let text = c.args.text.now in
    let at = c.loop-at.at in
    let n = c.in_ok-at.field-0 in
    let fits : n ≤ length text - at = omega (arith, c.in_ok-at.ensures.bound.0, length-take (length text - at) (drop at text)) in
    record {
      within = omega arith;
      bytes = subst (λ (x : List ℕ). Grows (g.K.Sink.written c.args.sink.now) (g.K.Sink.written c.write.new.self) x) (two_fronts text at n (length text - at) fits)
          (grows_twice _ _ _ (take at text) (take n (take (length text - at) (drop at text))) c.loop-at.invariant.bytes c.in_ok-at.ensures.bytes);
      finished = λ _. c.write.ensures.finished;
      told = c.in_ok-at.ensures.cause.told (ok_no_err _ _) ∙ c.loop-at.invariant.told;
    }
