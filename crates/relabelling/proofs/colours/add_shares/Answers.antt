use Rattle.std.proofs.Common.{◌+◌, ◌∙◌, get_or, ap, refl}
use Rattle.simplex.proofs.Filled.{rising_of}
use Rattle.relabelling.specs.Colours.{colour, capped, mix, added}
use Rattle.relabelling.proofs.ColourLaws.{added_next}
use Rattle.relabelling.proofs.colours.add_shares.Goals as goal

pub loop-label-preserved : goal.loop-label-preserved
loop-label-preserved c =
    added_next (added (colour c.args.colours.now) c.args.facet.now) (colour c.args.next.now) (colour c.loop-label.next) (colour c.add.new.colours) c.args.facet.now c.labels-label-items.result.now c.loop-label.label-index
    (get_or c.labels-label-items.result.now c.loop-label.label-index 0) c.added-amount.result c.labels-label-items.ensures.value (rising_of c.args.facet.now c.labels-label-items.ensures.simplex) c.loop-label-test.true refl
    (c.added-amount.ensures ∙ ap (λ n. mix (capped (n + mix (colour c.args.colours.now (get_or c.labels-label-items.result.now c.loop-label.label-index 0))))) c.facet_colour-whole.ensures) c.loop-label.invariant c.in_ok-add.ensures
