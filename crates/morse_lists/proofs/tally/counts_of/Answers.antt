use Rattle.std.proofs.Common.{take, arith}
use Rattle.morse_lists.specs.Morse.{is_critical_of}
use Rattle.morse_lists.proofs.ListLaws.{filter_short, take_short}
use Rattle.morse_lists.proofs.tally.counts_of.Goals as goal

pub count-requires : goal.count-requires
count-requires c = λ k h.
    let i = c.loop-step.step-index in
    let steps = c.args.steps.now in
    omega (arith, c.loop-step.invariant.value k h, filter_short (is_critical_of k) (take i steps), take_short steps i, c.loop-step-test.true)
