use Rattle.relabelling.proofs.MapsLaws.{map_members_lem}
use Rattle.relabelling.proofs.laws.map_members.Goals as goal

pub returns : goal.returns
returns c = map_members_lem
