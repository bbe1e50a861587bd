use Rattle.std.proofs.Common.{◌≡◌, ◌+◌, ◌≤◌, ◌^◌, ℕ, List, length}
use Rattle.face_lattice.specs.Slots.{cell_at, after_less, KeepsIds}
use Rattle.face_lattice.proofs.FallLaws.{kept_from}
use Rattle.face_lattice.proofs.passes.remove_facet.Given as goal

abbrev pub invariant-loop-mask : goal.invariant-loop-mask
invariant-loop-mask g l = record {
  below : l.mask ≤ 2 ^ length l.facet;
  cells : (t : List ℕ) → cell_at l.slab t ≡ kept_from (cell_at l.fn.slab) (after_less l.facet (cell_at l.fn.slab)) l.facet l.mask t;
  ids : KeepsIds l.fn.slab l.slab;
  steps : l.steps + l.mask ≡ l.fn.steps + 2 ^ length l.facet;
}

abbrev pub decreases-loop-mask : goal.decreases-loop-mask
decreases-loop-mask g l = l.mask
