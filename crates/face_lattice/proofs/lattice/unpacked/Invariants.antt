use Rattle.std.proofs.Common.{◌≡◌, take}
use Rattle.face_lattice.proofs.lattice.unpacked.Given as goal

abbrev pub invariant-loop-key : goal.invariant-loop-key
invariant-loop-key l = l.list.items ≡ take l.key-index l.keys
