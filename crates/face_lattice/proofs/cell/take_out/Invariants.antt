use Rattle.std.proofs.Common.{◌≡◌, IsTrue, take}
use Rattle.std.specs.Ordering.{nat_cmp}
use Rattle.simplex.specs.InOrder.{is_increasing}
use Rattle.simplex.specs.Simplex.{minus}
use Rattle.face_lattice.proofs.cell.take_out.Given as goal

abbrev pub invariant-loop-label : goal.invariant-loop-label
invariant-loop-label l = record {
  labels : l.up.items ≡ minus l.initial.up.items (take l.label-index l.label-items);
  rising : IsTrue (is_increasing nat_cmp l.up.items);
  capacity : l.up.capacity ≡ l.initial.up.capacity;
}
