use Rattle.shellings.proofs.PlaceLaws.{one_put}
use Rattle.shellings.proofs.place_set.PlaceSet.put.Goals as goal

pub returns-clause-value : goal.returns-clause-value
returns-clause-value c = one_put c.args.self.now.words.items c.args.place c.index_mut.result.now c.requires c.index_mut.ensures.value
