use Rattle.std.proofs.Common.{◌≡◌, drop}
use Rattle.std.specs.List.{list_all}
use Rattle.plain_text.specs.Bytes.{is_white}
use Rattle.script_text.specs.Tokens.{is_blank, plain_from}
use Rattle.script_text.proofs.reading.is_blank.Given as goal

abbrev pub invariant-loop-byte : goal.invariant-loop-byte
invariant-loop-byte l = list_all is_white (plain_from l.comment (drop l.byte-index l.bytes)) ≡ is_blank l.bytes
