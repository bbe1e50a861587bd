use Rattle.std.proofs.Common.{◌≡◌, ℕ, ◌<◌, ◌≤◌, ◌⊎◌, get_or}
use Rattle.face_lattice.proofs.lattice.Lattice.size.Given as goal

abbrev pub invariant-loop-n : goal.invariant-loop-n
invariant-loop-n l = record {
  all : (m : ℕ) → m < l.n → 0 < get_or l.self-inside.counts m 0 → m ≤ l.size;
  some : (l.size ≡ 0) ⊎ (0 < get_or l.self-inside.counts l.size 0);
  bound : l.size ≤ 12;
}
