use Rattle.std.proofs.Common.{◌≡◌, ◌<◌, false, List, ℕ}
use Rattle.simplex.specs.Simplex.{subset_at}
use Rattle.face_lattice.specs.Slots.{cell_at, AreCellsOf, HasNoMoreIdle, Lasting}
use Rattle.face_lattice.specs.States.{is_idle}
use Rattle.face_lattice.proofs.passes.drop_idle.Given as goal

abbrev pub invariant-loop-mask : goal.invariant-loop-mask
invariant-loop-mask l = record {
  lasts : Lasting l.initial.slab l.slab;
  fewer : HasNoMoreIdle l.initial.slab l.slab;
  gone : (k : ℕ) → k < l.mask → is_idle (cell_at l.slab (subset_at l.outer k)) ≡ false;
  cells : (c : List (List ℕ)) → AreCellsOf c (cell_at l.initial.slab) → AreCellsOf c (cell_at l.slab);
}
