use Rattle.std.proofs.Common.{◌≡◌, ◌<◌, true, nat_eq, length, ℕ, List, take}
use Rattle.std.specs.HashSet.{contains}
use Rattle.std.specs.Cmp.Lexicographic.{pointwise}
use Rattle.simplex.specs.Members.{In}
use Rattle.facet_set.proofs.generated.shorter.Given as goal

abbrev pub invariant-loop-s : goal.invariant-loop-s
invariant-loop-s l = (s : List ℕ) → In s (take l.s-index l.members) → length s < l.longest → contains (pointwise nat_eq) l.shorter s ≡ true
