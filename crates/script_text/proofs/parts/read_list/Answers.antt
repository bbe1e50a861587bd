use Rattle.script_text.specs.Fronts.{number}
use Rattle.script_text.proofs.PartLaws.{no_opened, none_inside}
use Rattle.script_text.proofs.parts.read_list.Goals as goal

pub returns-in-Some-clause-none : goal.returns-in-Some-clause-none
returns-in-Some-clause-none c = none_inside c.read_opened.result _ _ (no_opened number _ _ c.in-Some.ensures.some) c.read_opened.ensures.none
