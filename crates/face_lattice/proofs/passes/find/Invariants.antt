use Rattle.std.proofs.Common.{◌≡◌, ◌≤◌, ℕ, ◌<◌, length, get_or, vec_capacity}
use Rattle.simplex.specs.Simplex.{subset_at}
use Rattle.face_lattice.specs.Slots.{IsNoted}
use Rattle.face_lattice.proofs.passes.find.Given as goal

abbrev pub invariant-loop-mask : goal.invariant-loop-mask
invariant-loop-mask l = record {
  len : length l.ids.items ≡ l.mask;
  at : (k : ℕ) → k < l.mask → IsNoted l.slab (subset_at l.outer k) (get_or l.ids.items k 0);
  capacity : vec_capacity l.fn.ids ≤ vec_capacity l.ids;
}
