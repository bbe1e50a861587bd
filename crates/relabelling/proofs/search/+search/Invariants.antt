use Rattle.std.proofs.Common.{◌≡◌, ◌-◌, ◌+◌, ◌*◌, length, take, vec_len}
use Rattle.std.specs.Prelude.{None}
use Rattle.relabelling.specs.Search.{branch}
use Rattle.relabelling.proofs.SeekLaws.{first_some}
use Rattle.relabelling.proofs.search.+search.Given as goal

abbrev pub decreases-leads : goal.decreases-leads
decreases-leads l = 3 * (length l.sought.now.vertices.now - vec_len l.images.now) + 1

abbrev pub decreases-follow : goal.decreases-follow
decreases-follow l = 3 * (length l.sought.now.vertices.now - vec_len l.images.now)

abbrev pub decreases-search : goal.decreases-search
decreases-search l = 3 * (length l.sought.now.vertices.now - vec_len l.images.now) + 2

abbrev pub invariant-search-loop-target : goal.invariant-search-loop-target
invariant-search-loop-target l = (l.images.items ≡ l.fn.images.items) × (first_some (branch l.sought.c.now l.sought.d.now l.images.items) (take l.target-index l.sought.targets.now) ≡ None)
