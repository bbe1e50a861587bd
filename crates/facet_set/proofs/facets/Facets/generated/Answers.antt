use Rattle.std.proofs.Common.{◌∙◌}
use Rattle.facet_set.proofs.FacetLaws.{generated_items, generated_facets}
use Rattle.facet_set.proofs.facets.Facets.generated.Goals as goal

pub invariant_of-result : goal.invariant_of-result
invariant_of-result c = generated_facets c.args.list.now c.deref.result.now c.in_ok-simplices.simplices.items (c.deref.ensures.value ∙ c.in_ok-members.ensures) c.in_ok-simplices.ensures.value c.uncovered.ensures.simplices

pub returns : goal.returns
returns c = generated_items c.args.list.now c.deref.result.now c.in_ok-simplices.simplices.items (c.deref.ensures.value ∙ c.in_ok-members.ensures) c.in_ok-simplices.ensures.value
