use Rattle.ranked_set.proofs.BlockLaws.{search_here, search_absent, search_there, search_found}
use Rattle.ranked_set.proofs.blocks.place_of.Goals as goal

pub returns-clause-here : goal.returns-clause-here
returns-clause-here c = search_here c.args.s.now c.args.items.now c.requires c.binary_search.result c.binary_search.ensures.bound c.binary_search.ensures.position

pub returns-clause-absent : goal.returns-clause-absent
returns-clause-absent c = search_absent c.args.s.now c.args.items.now c.requires c.binary_search.result c.binary_search.ensures.position

pub returns-clause-there : goal.returns-clause-there
returns-clause-there c = search_there c.args.s.now c.args.items.now c.requires c.binary_search.result c.binary_search.ensures.position

pub returns-clause-found : goal.returns-clause-found
returns-clause-found c = search_found c.args.s.now c.args.items.now c.requires c.binary_search.result c.binary_search.ensures.bound c.binary_search.ensures.position
