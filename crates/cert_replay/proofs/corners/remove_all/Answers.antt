use Rattle.std.proofs.Common.{List, ℕ, subst}
use Rattle.cert_replay.specs.Corners.{HasNone}
use Rattle.cert_replay.proofs.TableLaws.{none_none, less_facet, all_taken}
use Rattle.cert_replay.proofs.corners.remove_all.Goals as goal

pub loop-facet-init : goal.loop-facet-init
loop-facet-init c = none_none c.args.facets.now c.args.corners.now.keys

pub loop-facet-preserved : goal.loop-facet-preserved
loop-facet-preserved c =
    less_facet c.args.facets.now c.args.corners.now.keys c.loop-facet.corners.keys c.remove.new.corners.keys c.loop-facet.facet-index c.facet-item.result c.loop-facet-test.true c.facet-item.is c.loop-facet.invariant c.remove.ensures

pub returns : goal.returns
returns c =
    subst (λ (l : List (List ℕ)). HasNone l c.args.corners.now.keys c.loop-facet.corners.keys) (all_taken c.args.facets.now c.loop-facet.facet-index c.loop-facet-test.false) c.loop-facet.invariant
