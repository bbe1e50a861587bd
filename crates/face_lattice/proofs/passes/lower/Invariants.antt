use Rattle.std.proofs.Common.{◌≡◌, ℕ, ◌+◌, length, get_or}
use Rattle.face_lattice.specs.Counts.{blank_count}
use Rattle.face_lattice.specs.Slots.{cell_at}
use Rattle.face_lattice.proofs.passes.lower.Given as goal

abbrev pub invariant-loop-mask : goal.invariant-loop-mask
invariant-loop-mask l = record {
  value : (n : ℕ) → get_or l.counts n 0 + blank_count l.facet (cell_at l.slab) n l.mask ≡ get_or l.initial.counts n 0;
  sizes : length l.counts ≡ 13;
}
