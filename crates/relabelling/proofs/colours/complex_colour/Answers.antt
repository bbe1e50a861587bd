use Rattle.std.proofs.Common.{◌∙◌}
use Rattle.relabelling.specs.Colours.{colour, facet_colour}
use Rattle.relabelling.proofs.ColourLaws.{total_next}
use Rattle.relabelling.proofs.colours.complex_colour.Goals as goal

pub loop-facet-preserved : goal.loop-facet-preserved
loop-facet-preserved c =
    c.saturating_add-sum.ensures
    ∙ total_next (facet_colour (colour c.args.colours.now)) c.args.facets.now c.loop-facet.facet-index c.facet-item.result c.facet-item.result c.loop-facet.sum c.facet_colour-number.result c.loop-facet-test.true c.facet-item.is c.loop-facet.invariant
    c.facet_colour-number.ensures
