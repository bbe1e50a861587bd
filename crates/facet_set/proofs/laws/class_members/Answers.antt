use Rattle.facet_set.proofs.OnceLaws.{class_members_lem}
use Rattle.facet_set.proofs.laws.class_members.Goals as goal

pub returns : goal.returns
returns c = record { labels = class_members_lem; facets = class_members_lem }
