use Rattle.std.proofs.Common.{ap, ◌∙◌, ◌+◌, ◌-◌, ◌^◌, min}
use Rattle.flip_certificate.proofs.GuessLaws.{number_step}
use Rattle.flip_certificate.proofs.guessing.number_of.Goals as goal

pub loop-digit-preserved : goal.loop-digit-preserved
loop-digit-preserved c =
    number_step c.args.digits.now c.loop-digit.digit-index c.loop-digit.n c.saturating_mul.result c.saturating_add-n.result c.loop-digit-test.true c.loop-digit.invariant c.saturating_mul.ensures
    (c.saturating_add-n.ensures ∙ ap (λ d. min (c.saturating_mul.result + d) (2 ^ 32 - 1)) c.saturating_sub.ensures)
