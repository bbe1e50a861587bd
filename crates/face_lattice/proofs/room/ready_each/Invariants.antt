use Rattle.std.proofs.Common.{◌≡◌, ◌≤◌, false, List, ℕ, IsTrue, IsSomeAnd, take, vec_capacity}
use Rattle.simplex.specs.Members.{In}
use Rattle.simplex.specs.Simplex.{is_simplex, is_within}
use Rattle.facet_set.specs.Complex.{is_face}
use Rattle.face_lattice.specs.Slots.{cell_at, AreCellsOf, Lasting}
use Rattle.face_lattice.specs.States.{is_idle, HasRoom}
use Rattle.face_lattice.proofs.room.ready_each.Given as goal

abbrev pub invariant-loop-s : goal.invariant-loop-s
invariant-loop-s l = record {
  lasts : Lasting l.initial.slab l.slab;
  cells : (c : List (List ℕ)) → AreCellsOf c (cell_at l.initial.slab) → AreCellsOf c (cell_at l.slab);
  idle : (t : List ℕ) → is_face l.list t ≡ false → is_idle (cell_at l.slab t) ≡ is_idle (cell_at l.initial.slab t);
  ready : (s : List ℕ) → In s (take l.s-index l.list) → (t : List ℕ) → IsTrue (is_simplex t) → IsTrue (is_within t s) → IsSomeAnd (cell_at l.slab t) (HasRoom l.labels t);
  capacity : vec_capacity l.initial.ids ≤ vec_capacity l.ids;
}
