use Rattle.std.proofs.Common.{◌∙◌, ap}
use Rattle.simplex.specs.Simplex.{simplex_cmp}
use Rattle.simplex.specs.InOrder.{is_increasing}
use Rattle.simplex.proofs.InOrderLaws.{and_left}
use Rattle.facet_set.specs.Complex.{stands_in}
use Rattle.facet_set.proofs.FacetLaws.{found_is}
use Rattle.facet_set.proofs.facets.Facets.is_facet.Goals as goal

pub returns : goal.returns
returns c =
    let same = c.deref.ensures.value in
    c.is_ok.ensures.value
    ∙ found_is c.deref.result.now c.args.s.now c.binary_search.result (ap (is_increasing simplex_cmp) same ∙ and_left _ _ c.self.invariant.complex) c.binary_search.ensures.bound c.binary_search.ensures.position
    ∙ ap (λ l. stands_in l c.args.s.now) (same ∙ c.self.view_is)
