use Rattle.std.proofs.Common.{◌≡◌, ℕ, ◌<◌, false, IsTrue}
use Rattle.std.specs.List.{list_all}
use Rattle.simplex.specs.Simplex.{is_simplex, subset_at}
use Rattle.facet_set.specs.Complex.{stands_in}
use Rattle.face_lattice.proofs.lattice.Lattice.has_facet_in.Given as goal

abbrev pub invariant-loop-mask : goal.invariant-loop-mask
invariant-loop-mask l = record {
  none : (k : ℕ) → k < l.mask → stands_in l.self.facets (subset_at l.s k) ≡ false;
  simplices : 0 < l.mask → IsTrue (list_all is_simplex l.self.facets);
}
