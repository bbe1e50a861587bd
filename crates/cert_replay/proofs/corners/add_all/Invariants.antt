use Rattle.std.proofs.Common.{take}
use Rattle.cert_replay.specs.Corners.{HasAll}
use Rattle.cert_replay.proofs.corners.add_all.Given as goal

abbrev pub invariant-loop-facet : goal.invariant-loop-facet
invariant-loop-facet l = HasAll (take l.facet-index l.facets) l.fn.corners.keys l.corners.keys
