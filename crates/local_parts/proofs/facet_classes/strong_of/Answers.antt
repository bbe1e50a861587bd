use Rattle.std.proofs.Common.{◌∙◌}
use Rattle.simplex.proofs.InOrderLaws.{and_left}
use Rattle.facet_set.proofs.ComplexLaws.{sets_of}
use Rattle.local_parts.proofs.StrongLaws.{these_tied, these_below, strong_count}
use Rattle.local_parts.proofs.facet_classes.strong_of.Goals as goal

pub class_count-requires : goal.class_count-requires
class_count-requires c =
    these_below c.args.c.now c.as_slice-facets.result.now c.deref-2.result.now (sets_of c.args.c.now c.as_slice-facets.ensures.simplices) c.requires (and_left _ _ c.as_slice-facets.ensures.complex) c.as_slice-facets.ensures.value
    (these_tied c.args.c.now c.as_slice-facets.result.now c.deref.result.now c.deref-2.result.now c.in_ok-pairs.pairs.items c.as_slice-facets.ensures.value (c.deref.ensures.value ∙ c.in_ok-places.ensures) c.deref-2.ensures.value c.in_ok-pairs.ensures)

pub returns : goal.returns
returns c =
    strong_count c.args.c.now c.as_slice-facets.result.now c.deref-2.result.now c.in_ok-count.count (sets_of c.args.c.now c.as_slice-facets.ensures.simplices) c.requires (and_left _ _ c.as_slice-facets.ensures.complex) c.as_slice-facets.ensures.value
    (these_tied c.args.c.now c.as_slice-facets.result.now c.deref.result.now c.deref-2.result.now c.in_ok-pairs.pairs.items c.as_slice-facets.ensures.value (c.deref.ensures.value ∙ c.in_ok-places.ensures) c.deref-2.ensures.value c.in_ok-pairs.ensures)
    c.in_ok-count.ensures
