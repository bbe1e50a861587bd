use Rattle.cert_replay.proofs.TableLaws.{MoreTo}
use Rattle.cert_replay.proofs.corners.add.Given as goal

abbrev pub invariant-loop-label : goal.invariant-loop-label
invariant-loop-label l = MoreTo l.facet l.label-index l.fn.corners.keys l.corners.keys
