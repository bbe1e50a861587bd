use Rattle.std.proofs.Common.{◌≡◌, take}
use Rattle.shellings.specs.Candidates.{free_labels}
use Rattle.shellings.proofs.restrictions.restriction.Given as goal

abbrev pub invariant-loop-g : goal.invariant-loop-g
invariant-loop-g l = l.free ≡ free_labels (take l.g-index l.earlier) l.f
