use Rattle.local_parts.proofs.ForestLaws.{hung_falls, hung_roots}
use Rattle.local_parts.proofs.forest.unite.Goals as goal

pub returns-clause-falls : goal.returns-clause-falls
returns-clause-falls c =
    hung_falls c.args.parents.now c.args.i c.args.j c.root_of-a.result c.root_of-b.result c.min.result c.max.result c.requires.falls c.root_of-a.ensures.value c.root_of-b.ensures.value c.min.ensures c.max.ensures c.root_of-a.ensures.within c.root_of-b.ensures.within c.root_of-a.ensures.root c.root_of-b.ensures.root

pub returns-clause-roots : goal.returns-clause-roots
returns-clause-roots c =
    hung_roots c.args.parents.now c.args.i c.args.j c.root_of-a.result c.root_of-b.result c.min.result c.max.result c.requires.falls c.root_of-a.ensures.value c.root_of-b.ensures.value c.min.ensures c.max.ensures c.root_of-a.ensures.within c.root_of-b.ensures.within c.root_of-a.ensures.root c.root_of-b.ensures.root
