use Rattle.std.proofs.Common.{◌∙◌, sym, ap}
use Rattle.std.specs.Cmp.Lexicographic.{pointwise}
use Rattle.facet_set.proofs.GeneratedLaws.{same}
use Rattle.facet_set.proofs.FacetLaws.{exact_at, exact_not}
use Rattle.facet_set.proofs.facets.Facets.exact.Goals as goal

pub returns-then-eq : goal.returns-then-eq
returns-then-eq c = exact_at c.args.list.now c.in_ok-facets.facets c.in_ok-facets.ensures (sym (c.eq.ensures ∙ ap (λ l. pointwise same l c.args.list.now) c.as_slice.ensures.value) ∙ c.if-eq.true)

pub returns-else-eq : goal.returns-else-eq
returns-else-eq c = exact_not c.args.list.now c.in_ok-facets.facets c.in_ok-facets.ensures (sym (c.eq.ensures ∙ ap (λ l. pointwise same l c.args.list.now) c.as_slice.ensures.value) ∙ c.if-eq.false)
