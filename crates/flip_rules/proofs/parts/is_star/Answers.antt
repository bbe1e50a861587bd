use Rattle.std.proofs.Common.{◌∙◌}
use Rattle.facet_set.proofs.StarLaws.{counted_star}
use Rattle.flip_rules.proofs.parts.is_star.Goals as goal

pub returns : goal.returns
returns c =
    c.is_counted_star.ensures ∙ counted_star c.args.facets.now c.args.flip.now.a c.args.flip.now.b c.requires.simplices c.requires.complex
    c.inverse-back.ensures.a c.inverse-back.ensures.b c.requires.pure c.requires.sizes c.requires.apart
