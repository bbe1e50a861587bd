use Rattle.std.proofs.Common.{◌≡◌, ◌+◌, length, false}
use Rattle.relabelling.specs.Walks.{Extends, NoneAgrees, unseen_count}
use Rattle.relabelling.proofs.WalkLaws.{OnWay}
use Rattle.relabelling.proofs.extending.images_from.Given as goal

abbrev pub invariant-loop-facet : goal.invariant-loop-facet
invariant-loop-facet l = record { extends : Extends l.ways.c.now l.ways.d.now l.fn.given l.walk.images; on_way : OnWay l.ways.c.now l.start l.walk; apart : l.walk.fits ≡ false → NoneAgrees l.ways.c.now l.ways.d.now l.walk.images }

abbrev pub decreases-loop-facet : goal.decreases-loop-facet
decreases-loop-facet l = length l.walk.waiting.items + unseen_count l.ways.c.now l.walk
