use Rattle.std.proofs.Common.{◌<◌, ◌∙◌, ℕ, List, length, get_or, ap, subst}
use Rattle.relabelling.specs.Colours.{colour, mix}
use Rattle.relabelling.proofs.ColourLaws.{total_next}
use Rattle.relabelling.proofs.colours.facet_colour.Goals as goal

pub loop-label-preserved : goal.loop-label-preserved
loop-label-preserved c =
    c.saturating_add-sum.ensures
    ∙ total_next (λ a. mix (colour c.args.colours.now a)) c.args.facet.now c.loop-label.label-index (get_or c.labels-label-items.result.now c.loop-label.label-index 0) 0 c.loop-label.sum c.mix-number.result
    (subst (λ (l : List ℕ). c.loop-label.label-index < length l) c.labels-label-items.ensures.value c.loop-label-test.true) (ap (λ l. get_or l c.loop-label.label-index 0) c.labels-label-items.ensures.value) c.loop-label.invariant
    (c.mix-number.ensures ∙ ap mix c.colour.ensures)
