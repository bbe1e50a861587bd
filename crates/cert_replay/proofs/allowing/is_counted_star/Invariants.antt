use Rattle.std.proofs.Common.{◌≡◌, ◌≤◌, ◌&&◌, ◌+◌, drop, length}
use Rattle.std.specs.Prelude.{◌==◌}
use Rattle.std.specs.List.{list_all}
use Rattle.facet_set.specs.Complex.{facets_with}
use Rattle.facet_set.specs.Numbers.{degree}
use Rattle.facet_set.specs.Star.{lies_in_join, is_counted_star}
use Rattle.cert_replay.proofs.allowing.is_counted_star.Given as goal

-- the test on what is left, with the count so far, is the test on all
abbrev pub invariant-loop-facet : goal.invariant-loop-facet
invariant-loop-facet l =
    ((list_all (lies_in_join l.flip.a l.flip.b) (facets_with (drop l.facet-index l.facets) l.flip.a) && (l.degree + degree (drop l.facet-index l.facets) l.flip.a == length l.flip.b))
    ≡ is_counted_star l.facets l.flip.a l.flip.b)
    × (l.degree ≤ l.facet-index)
