use Rattle.std.proofs.Common.{◌≡◌, drop}
use Rattle.script_text.specs.Tokens.{pieces, plain, plain_from}
use Rattle.script_text.proofs.token.skip_blank.Given as goal

abbrev pub invariant-loop-at : goal.invariant-loop-at
invariant-loop-at l = pieces (plain_from l.comment (drop l.at l.bytes)) ≡ pieces (plain l.bytes)
