use Rattle.std.proofs.Common.{◌≡◌, ◌≤◌, ◌<◌, ◌^◌, ℕ, List, length, get_or}
use Rattle.simplex.specs.Simplex.{subset_at}
use Rattle.face_lattice.specs.Slots.{cell_at, unless_idle, IsNoted, Lasting}
use Rattle.face_lattice.proofs.FallLaws.{kept_below}
use Rattle.face_lattice.proofs.passes.put_back.Given as goal

abbrev pub invariant-loop-mask : goal.invariant-loop-mask
invariant-loop-mask l = record {
  lasts : Lasting l.initial.slab l.slab;
  cells : (t : List ℕ) → cell_at l.slab t ≡ kept_below (cell_at l.initial.slab) (λ s. unless_idle (cell_at l.initial.slab s)) l.outer l.mask t;
  noted : (k : ℕ) → l.mask ≤ k → k < 2 ^ length l.outer → IsNoted l.slab (subset_at l.outer k) (get_or l.ids k 0);
}
