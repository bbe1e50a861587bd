use Rattle.std.proofs.Common.{◌≡◌, ◌<◌, ◌^◌, ◌&&◌, not, take}
use Rattle.std.specs.List.{filter}
use Rattle.std.specs.Ordering.{nat_cmp}
use Rattle.simplex.specs.InOrder.{put}
use Rattle.simplex.specs.Simplex.{has, subset_at}
use Rattle.face_lattice.specs.States.{has_degree}
use Rattle.face_lattice.specs.Slots.{cell_at}
use Rattle.face_lattice.proofs.passes.lost_labels.Given as goal

abbrev pub invariant-loop-label : goal.invariant-loop-label
invariant-loop-label l = record {
  bit : l.bit ≡ 2 ^ l.label-index;
  below : l.lost < l.bit;
  labels : subset_at l.facet l.lost ≡ filter (λ x. not (has (subset_at l.facet l.mask) x) && has_degree 0 (cell_at l.slab (put nat_cmp x (subset_at l.facet l.mask)))) (take l.label-index l.facet);
}
