use Rattle.collapse_moves.proofs.FreeLaws.{partner_is_facet_lem}
use Rattle.collapse_moves.proofs.laws.partner_is_facet.Goals as goal

pub returns : goal.returns
returns c = partner_is_facet_lem
