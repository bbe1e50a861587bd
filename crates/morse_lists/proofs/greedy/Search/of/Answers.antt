use Rattle.std.proofs.Common.{◌≡◌, ◌<◌, ◌≤◌, ℕ, List, get_or, length, refl, sym, ◌∙◌, subst}
use Rattle.simplex.specs.Members.{In}
use Rattle.betti_tables.specs.Ranks.{column}
use Rattle.morse_lists.specs.Queues.{IsReady, Waits}
use Rattle.morse_lists.proofs.GreedyLaws.{waited_more, ready_of}
use Rattle.morse_lists.proofs.greedy.Search.of.Goals as goal

pub loop-facet-preserved : goal.loop-facet-preserved
loop-facet-preserved c =
    let new = c.add_facet.new.self in
    let told = c.in_ok-add_facet.ensures in
    let kept = c.loop-facet.invariant in
    let i = c.loop-facet.facet-index in
    let f = c.facet-item.result in
    record {
      faces = c.add_facet.ensures.faces ∙ kept.faces;
      waited = waited_more c.args.c.now i f c.args.c.now c.loop-facet.search.free c.loop-facet.search.tops new.free new.tops
          (subst (λ xs. i < length xs) c.as_slice-facet-items.ensures.value c.loop-facet-test.true) (subst (λ xs. f ≡ get_or xs i f) c.as_slice-facet-items.ensures.value c.facet-item.is)
          told.free_stay told.tops_stay told.top
          (subst (λ x. (s : List ℕ) → In s (column f) → Waits x new.free new.tops s) kept.faces told.below) kept.waited;
    }

pub returns-clause-ready : goal.returns-clause-ready
returns-clause-ready c =
    let search = c.loop-facet.search in
    let i = c.loop-facet.facet-index in
    subst (λ x. IsReady x search.free search.tops) (sym c.loop-facet.invariant.faces)
    (ready_of c.args.c.now c.args.c.now search.free search.tops i c.in_ok-of.ensures.facets refl (subst (λ xs. length xs ≤ i) c.as_slice-facet-items.ensures.value c.loop-facet-test.false)
    c.loop-facet.invariant.waited)
