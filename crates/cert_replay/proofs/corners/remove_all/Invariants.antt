use Rattle.std.proofs.Common.{take}
use Rattle.cert_replay.specs.Corners.{HasNone}
use Rattle.cert_replay.proofs.corners.remove_all.Given as goal

abbrev pub invariant-loop-facet : goal.invariant-loop-facet
invariant-loop-facet l = HasNone (take l.facet-index l.facets) l.fn.corners.keys l.corners.keys
