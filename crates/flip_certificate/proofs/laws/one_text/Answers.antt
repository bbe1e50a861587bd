use Rattle.std.proofs.Common.{sym, ◌∙◌}
use Rattle.flip_certificate.proofs.laws.one_text.Goals as goal

pub returns : goal.returns
returns c k bytes others s t = s.text ∙ sym t.text
