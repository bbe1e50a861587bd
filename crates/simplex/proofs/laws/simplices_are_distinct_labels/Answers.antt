use Rattle.simplex.proofs.FaultLaws.{faultless_is, faultless_from}
use Rattle.simplex.proofs.laws.simplices_are_distinct_labels.Goals as goal

pub returns : goal.returns
returns c = λ ns. (λ h. faultless_is ns h, λ h. faultless_from ns h.0 h.1 h.2)
