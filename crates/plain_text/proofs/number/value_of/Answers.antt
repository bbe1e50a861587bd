use Rattle.std.proofs.Common.{arith}
use Rattle.plain_text.proofs.BytesLaws.{next_fits, digit_fits}
use Rattle.plain_text.proofs.number.value_of.Goals as goal

pub overflow_mul-n : goal.overflow_mul-n
overflow_mul-n c = omega (arith, next_fits c.loop-digit.n c.loop-digit.digit-index c.loop-digit.invariant.1 (omega arith))

pub overflow_add-n : goal.overflow_add-n
overflow_add-n c = omega (arith, digit_fits c.args.digits.now c.loop-digit.n c.loop-digit.digit-index c.loop-digit.invariant.1 c.loop-digit-test.true c.requires.short c.requires.digits)
