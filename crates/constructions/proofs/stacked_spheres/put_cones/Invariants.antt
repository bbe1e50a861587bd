use Rattle.std.proofs.Common.{◌≡◌, ◌++◌, ◌∷◌, [], true, map, take}
use Rattle.simplex.specs.InOrder.{in_order, is_increasing}
use Rattle.simplex.specs.Simplex.{simplex_cmp, without}
use Rattle.constructions.proofs.stacked_spheres.put_cones.Given as goal

abbrev pub invariant-loop-old : goal.invariant-loop-old
invariant-loop-old g l = record {
  value : l.facets.members ≡ in_order simplex_cmp (map (λ x. without l.base x ++ l.label ∷ []) (take l.old-index l.base) ++ l.fn.facets.members);
  rising : is_increasing simplex_cmp l.facets.members ≡ true;
}
