use Rattle.cert_replay.proofs.TableLaws.{LessTo}
use Rattle.cert_replay.proofs.corners.remove.Given as goal

abbrev pub invariant-loop-label : goal.invariant-loop-label
invariant-loop-label l = LessTo l.facet l.label-index l.fn.corners.keys l.corners.keys
