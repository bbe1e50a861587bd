use Rattle.std.proofs.Common.{◌≡◌, ◌≤◌, ℕ, ◌<◌, List, length, get_or, vec_capacity}
use Rattle.simplex.specs.Simplex.{subset_at}
use Rattle.facet_set.proofs.FaceNumbers.{kept_after}
use Rattle.face_lattice.specs.Slots.{kept, put_blank, IsNoted, Lasting, Stays}
use Rattle.face_lattice.proofs.passes.note.Given as goal

abbrev pub invariant-loop-mask : goal.invariant-loop-mask
invariant-loop-mask l = record {
  len : length l.ids.items ≡ l.mask;
  at : (k : ℕ) → k < l.mask → IsNoted l.slab (subset_at l.outer k) (get_or l.ids.items k 0);
  kept : (t : List ℕ) → kept l.slab t ≡ kept_after put_blank l.outer l.mask (kept l.initial.slab) t;
  lasts : Lasting l.initial.slab l.slab;
  stays : Stays l.initial.slab l.slab;
  capacity : vec_capacity l.initial.ids ≤ vec_capacity l.ids;
}
