use Rattle.std.proofs.Common.{◌∙◌, nat_eq}
use Rattle.std.specs.HashSet.{contains}
use Rattle.constructions.proofs.NearLaws.{near_is}
use Rattle.constructions.proofs.nearness.is_near.Goals as goal

pub returns : goal.returns
returns c = c.meets.ensures ∙ near_is c.args.facets.now c.args.a c.args.b (contains nat_eq c.in_ok-around.around) (λ v. c.in_ok-around.ensures v)
