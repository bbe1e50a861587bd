use Rattle.std.proofs.Common.{◌≡◌, ◌≤◌, ◌&&◌, nat_eq, length, ℕ, List, IsTrue, take}
use Rattle.std.specs.HashSet.{contains}
use Rattle.std.specs.Cmp.Lexicographic.{pointwise}
use Rattle.simplex.specs.Simplex.{is_simplex}
use Rattle.facet_set.specs.Complex.{is_maximal_in}
use Rattle.facet_set.proofs.generated.take_out.Given as goal

abbrev pub invariant-loop-s : goal.invariant-loop-s
invariant-loop-s l =
    (t : List ℕ) → IsTrue (is_simplex t) → l.shortest ≤ length t → contains (pointwise nat_eq) l.free t ≡ (contains (pointwise nat_eq) l.fn.free t && is_maximal_in (take l.s-index l.members) t)
