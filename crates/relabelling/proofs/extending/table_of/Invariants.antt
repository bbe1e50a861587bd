use Rattle.std.proofs.Common.{◌≡◌, ◌≤◌, ℕ, drop, length, nat_eq}
use Rattle.std.specs.HashMap.{get}
use Rattle.std.specs.Map.{lookup}
use Rattle.relabelling.proofs.extending.table_of.Given as goal

abbrev pub invariant-loop-rest : goal.invariant-loop-rest
invariant-loop-rest l = record { within : l.rest ≤ length l.pairs; same : (a : ℕ) → get nat_eq l.table a ≡ lookup (nat_eq a) (drop l.rest l.pairs) }

abbrev pub decreases-loop-rest : goal.decreases-loop-rest
decreases-loop-rest l = l.rest
