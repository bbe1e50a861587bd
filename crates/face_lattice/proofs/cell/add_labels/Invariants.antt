use Rattle.std.proofs.Common.{◌≡◌, IsTrue, take}
use Rattle.std.specs.Ordering.{nat_cmp}
use Rattle.simplex.specs.InOrder.{is_increasing}
use Rattle.simplex.specs.Simplex.{minus, union}
use Rattle.face_lattice.proofs.cell.add_labels.Given as goal

abbrev pub invariant-loop-label : goal.invariant-loop-label
invariant-loop-label l = record {
  labels : l.up.items ≡ union l.initial.up.items (minus (take l.label-index l.label-items) l.s);
  rising : IsTrue (is_increasing nat_cmp l.up.items);
  capacity : l.up.capacity ≡ l.initial.up.capacity;
}
