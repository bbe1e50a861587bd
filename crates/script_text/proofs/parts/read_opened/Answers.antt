use Rattle.std.proofs.Common.{refl}
use Rattle.script_text.specs.Fronts.{number}
use Rattle.script_text.proofs.PartLaws.{no_closed, none_inside}
use Rattle.script_text.proofs.parts.read_opened.Goals as goal

pub returns-clause-none : goal.returns-clause-none
returns-clause-none c = none_inside c.read_numbers.result _ _ (no_closed number _ (c.in_default.ensures.none refl)) c.read_numbers.ensures.none
