use Rattle.std.proofs.Common.{◌∙◌, ◌++◌, map, ap}
use Rattle.simplex.specs.Simplex.{without}
use Rattle.local_parts.proofs.StrongLaws.{places_more}
use Rattle.local_parts.proofs.facet_classes.ridge_places.Goals as goal

pub loop-i-preserved : goal.loop-i-preserved
loop-i-preserved c =
    c.in_ok-add_places.ensures
    ∙ ap (λ l. l ++ map (λ a. (without c.index-facets-i.result a, c.loop-i.i)) c.index-facets-i.result) c.loop-i.invariant
    ∙ places_more c.args.facets.now c.loop-i.i c.index-facets-i.result c.loop-i-test.true c.index-facets-i.is
