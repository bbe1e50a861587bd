use Rattle.std.proofs.Common.{◌≡◌, ℕ, nat_eq, take}
use Rattle.std.specs.HashSet.{contains}
use Rattle.facet_set.specs.Connection.{is_edge}
use Rattle.constructions.proofs.nearness.around.Given as goal

abbrev pub invariant-loop-facet : goal.invariant-loop-facet
invariant-loop-facet l = (v : ℕ) → contains nat_eq l.set v ≡ is_edge (take l.facet-index l.facets) l.a v
