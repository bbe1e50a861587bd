use Rattle.relabelling.specs.Colours.{colour}
use Rattle.relabelling.proofs.ColourLaws.{share_next}
use Rattle.relabelling.proofs.colours.next_colours.Goals as goal

pub loop-facet-preserved : goal.loop-facet-preserved
loop-facet-preserved c = λ a.
    share_next (colour c.args.colours.now) c.args.facets.now c.loop-facet.facet-index c.facet-item.result c.facet-item.result a (colour c.loop-facet.next a) (colour c.add_shares.new.next a) c.loop-facet-test.true c.facet-item.is (c.loop-facet.invariant a)
    (c.in_ok-add_shares.ensures a)
