use Rattle.gf2_rank.proofs.PlaceLaws.{places_lem}
use Rattle.gf2_rank.proofs.laws.rank_is_that_of_the_places.Goals as goal

pub returns : goal.returns
returns c = places_lem
