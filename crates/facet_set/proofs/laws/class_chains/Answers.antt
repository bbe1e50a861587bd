use Rattle.facet_set.proofs.OnceLaws.{class_chains_lem}
use Rattle.facet_set.proofs.laws.class_chains.Goals as goal

pub returns : goal.returns
returns c = record { labels = class_chains_lem; facets = class_chains_lem }
