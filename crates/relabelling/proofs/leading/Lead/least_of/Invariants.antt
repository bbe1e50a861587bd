use Rattle.std.proofs.Common.{map, take}
use Rattle.simplex.specs.Members.{In}
use Rattle.facet_set.specs.Maps.{image_of}
use Rattle.relabelling.specs.Least.{Improves}
use Rattle.relabelling.proofs.leading.Lead.least_of.Given as goal

abbrev pub invariant-loop-order : goal.invariant-loop-order
invariant-loop-order l = Improves l.self.ways.now.c.now l.self.ways.now.d.now l.fn.best l.least (λ m. In (map (image_of m) l.self.start.now) (take l.order-index l.orders))
