use Rattle.std.proofs.Common.{◌≡◌, ◌+◌, ℕ, List}
use Rattle.facet_set.proofs.FaceNumbers.{kept_after}
use Rattle.face_lattice.specs.States.{put_more}
use Rattle.face_lattice.specs.Slots.{cell_at, KeepsIds}
use Rattle.face_lattice.proofs.passes.insert_facet.Given as goal

abbrev pub invariant-loop-mask : goal.invariant-loop-mask
invariant-loop-mask g l = record {
  cells : (t : List ℕ) → cell_at l.slab t ≡ kept_after put_more l.facet l.mask (cell_at l.initial.slab) t;
  ids : KeepsIds l.initial.slab l.slab;
  steps : l.steps ≡ l.initial.steps + l.mask;
}
