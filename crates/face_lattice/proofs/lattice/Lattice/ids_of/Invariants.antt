use Rattle.std.proofs.Common.{◌≡◌, ◌<◌, ℕ, None, get_or, length}
use Rattle.face_lattice.specs.Lattice.{id_of_part}
use Rattle.face_lattice.proofs.lattice.Lattice.ids_of.Given as goal

abbrev pub invariant-loop-mask : goal.invariant-loop-mask
invariant-loop-mask l = record {
  len : length l.ids.items ≡ l.mask;
  at : (k : ℕ) → k < l.mask → get_or l.ids.items k None ≡ id_of_part l.self l.outer k;
}
