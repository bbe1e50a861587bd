use Rattle.std.proofs.Common.{◌≡◌, ◌+◌, ◌++◌, ◌∷◌, [], take, sym, ap, ◌∙◌}
use Rattle.std.proofs.lemmas.List.{take_more}
use Rattle.flip_rules.specs.Tallies.{kept_at, after_facet}
use Rattle.flip_rules.proofs.TallyLaws.{tallies_more}
use Rattle.flip_rules.proofs.tallies.tallies_of.Goals as goal

pub loop-facet-preserved : goal.loop-facet-preserved
loop-facet-preserved c =
    let i = c.loop-facet.facet-index in
    let fs = c.args.facets.now in
    let f = c.facet-item.result in
    let more : take (i + 1) fs ≡ take i fs ++ f ∷ [] = take_more fs i f c.loop-facet-test.true ∙ ap (λ x. take i fs ++ x ∷ []) (sym c.facet-item.is) in
    λ s n.
    c.in_ok-add_facet.ensures s n
    ∙ ap (after_facet f s) (c.loop-facet.invariant s n)
    ∙ sym (tallies_more (take i fs) f s)
    ∙ ap (λ gs. kept_at gs s) (sym more)
