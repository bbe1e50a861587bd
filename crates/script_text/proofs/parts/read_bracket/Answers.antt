use Rattle.std.proofs.Common.{ap, is_some, refl}
use Rattle.script_text.proofs.PartLaws.{no_flat, no_nested}
use Rattle.script_text.proofs.parts.read_bracket.Goals as goal

pub returns-in_default-2-clause-none : goal.returns-in_default-2-clause-none
returns-in_default-2-clause-none c e = no_nested _ _ c.in-Some.ensures.some (c.in_ok-lists.ensures.none (ap is_some c.in_default-2.is))

pub returns-in_default-3-clause-none : goal.returns-in_default-3-clause-none
returns-in_default-3-clause-none c e = no_flat _ (c.in_default.ensures.none refl) (c.in_ok-list.ensures.none (ap is_some c.in_default-3.is))
