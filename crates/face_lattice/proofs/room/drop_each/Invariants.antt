use Rattle.std.proofs.Common.{◌≡◌, false, List, ℕ, IsTrue, take}
use Rattle.simplex.specs.Members.{In}
use Rattle.simplex.specs.Simplex.{is_simplex, is_within}
use Rattle.face_lattice.specs.States.{is_idle}
use Rattle.face_lattice.specs.Slots.{cell_at, AreCellsOf, HasNoMoreIdle, Lasting}
use Rattle.face_lattice.proofs.room.drop_each.Given as goal

abbrev pub invariant-loop-s : goal.invariant-loop-s
invariant-loop-s l = record {
  lasts : Lasting l.initial.slab l.slab;
  fewer : HasNoMoreIdle l.initial.slab l.slab;
  gone : (s : List ℕ) → In s (take l.s-index l.list) → (t : List ℕ) → IsTrue (is_simplex t) → IsTrue (is_within t s) → is_idle (cell_at l.slab t) ≡ false;
  cells : (c : List (List ℕ)) → AreCellsOf c (cell_at l.initial.slab) → AreCellsOf c (cell_at l.slab);
}
