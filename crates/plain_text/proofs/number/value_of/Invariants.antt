use Rattle.std.proofs.Common.{◌≡◌, ◌<◌, ◌^◌, drop}
use Rattle.plain_text.specs.Bytes.{value_onto}
use Rattle.plain_text.proofs.number.value_of.Given as goal

abbrev pub invariant-loop-digit : goal.invariant-loop-digit
invariant-loop-digit l = (value_onto l.n (drop l.digit-index l.digits) ≡ value_onto 0 l.digits) × (l.n < 10 ^ l.digit-index)
