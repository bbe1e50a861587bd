use Rattle.std.proofs.Common.{sym, ◌∙◌}
use Rattle.flip_certificate.proofs.CutLaws.{one_more}
use Rattle.flip_certificate.proofs.GuessedLaws.{four_words}
use Rattle.flip_certificate.proofs.guessing.guess_line.Goals as goal

pub returns-then-is_some : goal.returns-then-is_some
returns-then-is_some c =
    four_words c.args.line.now c.cut.result.0.now c.in-Some.rest.now c.cut-2.result.0.now c.in-Some-rest.rest.now c.cut-3.result.0.now c.cut-3.result.1
    (one_more 32 c.args.line.now c.cut.result.0.now c.cut.result.1 c.in-Some.rest c.cut.ensures.parts c.in-Some.is)
    (one_more 32 c.in-Some.rest.now c.cut-2.result.0.now c.cut-2.result.1 c.in-Some-rest.rest c.cut-2.ensures.parts c.in-Some-rest.is)
    c.cut-3.ensures.parts (sym c.is_some.ensures ∙ c.if-is_some.true)
