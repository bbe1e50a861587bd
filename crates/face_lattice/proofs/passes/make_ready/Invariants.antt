use Rattle.std.proofs.Common.{◌≡◌, ℕ, ◌<◌, List, IfSome}
use Rattle.simplex.specs.Simplex.{subset_at}
use Rattle.face_lattice.specs.States.{HasRoom}
use Rattle.face_lattice.specs.Slots.{cell_at, kept, asked_at, KeepsIds}
use Rattle.face_lattice.proofs.passes.make_ready.Given as goal

abbrev pub invariant-loop-mask : goal.invariant-loop-mask
invariant-loop-mask l = record {
  ids : KeepsIds l.initial.slab l.slab;
  kept : (t : List ℕ) → kept l.slab t ≡ kept l.initial.slab t;
  asked : (t : List ℕ) → asked_at l.slab t ≡ asked_at l.initial.slab t;
  ready : (k : ℕ) → k < l.mask → IfSome (cell_at l.slab (subset_at l.facet k)) (HasRoom l.labels (subset_at l.facet k));
  stays : (t f s : List ℕ) → IfSome (cell_at l.initial.slab t) (HasRoom f s) → IfSome (cell_at l.slab t) (HasRoom f s);
}
