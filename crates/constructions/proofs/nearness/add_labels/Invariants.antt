use Rattle.std.proofs.Common.{◌≡◌, ◌||◌, ℕ, nat_eq, take}
use Rattle.std.specs.HashSet.{contains}
use Rattle.simplex.specs.Simplex.{has}
use Rattle.constructions.proofs.nearness.add_labels.Given as goal

abbrev pub invariant-loop-label : goal.invariant-loop-label
invariant-loop-label l = (v : ℕ) → contains nat_eq l.set v ≡ (contains nat_eq l.fn.set v || has (take l.label-index l.labels) v)
