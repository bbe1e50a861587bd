use Rattle.std.proofs.Common.{◌≡◌, take}
use Rattle.packed_keys.proofs.key.Key.of.Given as goal

abbrev pub invariant-loop-label : goal.invariant-loop-label
invariant-loop-label l = l.key ≡ take l.label-index l.label-items
