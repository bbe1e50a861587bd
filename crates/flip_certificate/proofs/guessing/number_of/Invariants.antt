use Rattle.std.proofs.Common.{◌≡◌, take}
use Rattle.flip_certificate.specs.Reading.{number_of}
use Rattle.flip_certificate.proofs.guessing.number_of.Given as goal

abbrev pub invariant-loop-digit : goal.invariant-loop-digit
invariant-loop-digit l = l.n ≡ number_of (take l.digit-index l.digits)
