use Rattle.std.proofs.Common.{◌∙◌}
use Rattle.local_parts.proofs.PlaceLaws.{found_is}
use Rattle.local_parts.proofs.vertex_classes.place.Goals as goal

pub returns : goal.returns
returns c = c.unwrap_or.ensures ∙ found_is c.args.vertices.now c.args.label c.binary_search.result c.requires c.binary_search.ensures.bound c.binary_search.ensures.position
