use Rattle.std.proofs.Common.{◌≡◌, ◌≤◌, ◌&&◌, not, nat_eq, length, ℕ, List}
use Rattle.std.specs.HashSet.{contains}
use Rattle.std.specs.Cmp.Lexicographic.{pointwise}
use Rattle.facet_set.proofs.GeneratedLaws.{is_reached}
use Rattle.facet_set.proofs.generated.take_out_faces.Given as goal

abbrev pub invariant-loop-mask : goal.invariant-loop-mask
invariant-loop-mask l = (t : List ℕ) → l.shortest ≤ length t → contains (pointwise nat_eq) l.free t ≡ (contains (pointwise nat_eq) l.fn.free t && not (is_reached l.s l.mask t))
