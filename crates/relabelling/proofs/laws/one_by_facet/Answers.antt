use Rattle.relabelling.proofs.MapsLaws.{one_by_facet_lem}
use Rattle.relabelling.proofs.laws.one_by_facet.Goals as goal

pub returns : goal.returns
returns c = one_by_facet_lem
