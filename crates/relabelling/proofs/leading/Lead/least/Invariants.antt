use Rattle.std.proofs.Common.{take, slice_index_or}
use Rattle.std.specs.Prelude.{None}
use Rattle.simplex.specs.Members.{In}
use Rattle.facet_set.specs.Maps.{image_of, relabelled}
use Rattle.relabelling.specs.Least.{Improves}
use Rattle.relabelling.proofs.leading.Lead.least.Given as goal

abbrev pub invariant-loop-place : goal.invariant-loop-place
invariant-loop-place l = Improves l.self.ways.now.c.now l.self.ways.now.d.now None l.best (λ m. In (image_of m (slice_index_or l.self.start.now 0 0), relabelled m l.self.start.now) (take l.place-index l.place-items))
