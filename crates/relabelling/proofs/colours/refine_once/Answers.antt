use Rattle.std.proofs.Common.{◌∙◌, ap, sym}
use Rattle.std.specs.Prelude.{◌==◌}
use Rattle.facet_set.specs.Maps.{image_of}
use Rattle.simplex.proofs.Decided.{false_at, equal_from}
use Rattle.relabelling.specs.Colours.{colour, next_colour, complex_colour}
use Rattle.relabelling.proofs.ColourLaws.{next_kept, complex_kept}
use Rattle.relabelling.proofs.colours.refine_once.Goals as goal

pub returns-clause-kept : goal.returns-clause-kept
returns-clause-kept c = λ m carries keeps a i.
    c.in_ok-of_c.ensures a ∙ ap (λ l. next_colour (colour c.args.colours.now.of_c) l a) c.as_slice.ensures.value
    ∙ next_kept c.args.c.now c.args.d.now m c.as_slice.ensures.simplices c.as_slice.ensures.complex carries (colour c.args.colours.now.of_c) (colour c.args.colours.now.of_d) keeps a i
    ∙ sym (c.in_ok-of_d.ensures (image_of m a) ∙ ap (λ l. next_colour (colour c.args.colours.now.of_d) l (image_of m a)) c.as_slice-2.ensures.value)

pub returns-clause-apart : goal.returns-clause-apart
returns-clause-apart c = λ no m carries keeps.
    false_at (c.complex_colour-all_c.result == c.complex_colour-all_d.result) no
    (equal_from c.complex_colour-all_c.result c.complex_colour-all_d.result
    (c.complex_colour-all_c.ensures ∙ ap (complex_colour (colour c.in_ok-of_c.of_c)) c.as_slice-3.ensures.value
    ∙ complex_kept c.args.c.now c.args.d.now m c.as_slice.ensures.simplices c.as_slice.ensures.complex carries (colour c.in_ok-of_c.of_c) (colour c.in_ok-of_d.of_d) (returns-clause-kept c m carries keeps)
    ∙ sym (c.complex_colour-all_d.ensures ∙ ap (complex_colour (colour c.in_ok-of_d.of_d)) c.as_slice-4.ensures.value)))
