use Rattle.std.proofs.Common.{◌≡◌, vec_len}
use Rattle.face_lattice.specs.Lattice.{all_but}
use Rattle.face_lattice.proofs.lattice.forget.Given as goal

abbrev pub invariant-loop-k : goal.invariant-loop-k
invariant-loop-k l = all_but l.f l.list.items ≡ all_but l.f l.initial.list.items

abbrev pub decreases-loop-k : goal.decreases-loop-k
decreases-loop-k l = vec_len l.list
